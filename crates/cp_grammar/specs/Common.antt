-- Formats that several types share: indexes, names, members, groups, invocations.
use Rattle.std.specs.Prelude.{ℕ, ◌-◌, ◌^◌, Bool, true, false, List, length, Option, Some, None, nat_lt, slice_get}
use Rattle.std.specs.Int.{w32, w64}
use Rattle.cp_base.specs.Names.{name_fault}
use Rattle.cp_base.specs.declared.identifier.MemberNo.{MemberNo}
use Rattle.cp_base.specs.declared.identifier.ThreadNo.{ThreadNo}
use Rattle.cp_base.specs.declared.identifier.GroupId.{GroupId}
use Rattle.cp_base.specs.declared.identifier.ClientId.{ClientId}
use Rattle.cp_base.specs.declared.identifier.Invocation.{Invocation}
use Rattle.cp_base.specs.declared.limits.TheConstants.{LAST_NUMBER, MOST_MEMBER, MOST_NAME, MOST_THREAD}
use Rattle.cp_grammar.specs.Grammar.{Grammar, tokens, checked, ◌then◌, mapped}
use Rattle.cp_grammar.specs.Lists.{listed}
use Rattle.cp_grammar.specs.Fields.{byte, number, at_least, bytes}

-- terms, indexes, groups, sessions and their versions, restart numbers, attempts, rounds, numbers of calls
unfoldable pub index : Grammar ℕ ℕ
index = number w64 LAST_NUMBER

-- two indexes, as a session with its version
unfoldable pub index_pair : Grammar ℕ (ℕ × ℕ)
index_pair = index then index

abbrev pub is_none : Option ℕ → Bool
is_none None = true
is_none (Some place) = false

-- bytes that are a name
unfoldable pub name : Grammar ℕ (List ℕ)
name = checked (bytes MOST_NAME) (λ text. is_none (name_fault text))

unfoldable pub group_id : Grammar ℕ GroupId
group_id = mapped (λ n. record { 0 = n }) (λ g. g.0) index

-- from 0 to 8
unfoldable pub thread_no : Grammar ℕ ThreadNo
thread_no = mapped (λ n. record { 0 = n }) (λ t. t.0) (byte MOST_THREAD)

-- from 1 to 9
unfoldable pub member_no : Grammar ℕ MemberNo
member_no = mapped (λ n. record { 0 = n }) (λ m. m.0) (at_least 1 (byte MOST_MEMBER))

-- any sixteen bytes
unfoldable pub client_id : Grammar ℕ ClientId
client_id = mapped (λ bytes. record { 0 = bytes }) (λ c. c.0) (tokens 16)

unfoldable pub invocation : Grammar ℕ Invocation
invocation = mapped (λ p. record { client = p.0; thread = p.1.0; number = p.1.1 }) (λ i. (i.client, (i.thread, i.number))) (client_id then thread_no then index)

abbrev pub or_zero : Option ℕ → ℕ
or_zero None = 0
or_zero (Some n) = n

-- the last of some numbers, 0 where there is none
abbrev pub last_number : List ℕ → ℕ
last_number ns = or_zero (slice_get ns (length ns - 1))

-- a member's number, above those before it, of at most 9
unfoldable pub member_after : List ℕ → Grammar ℕ ℕ
member_after before = checked (byte MOST_MEMBER) (λ n. nat_lt (last_number before) n)

-- members by rising number, one at least
unfoldable pub members : Grammar ℕ (List ℕ)
members = listed (at_least 1 (number w32 (2 ^ 32 - 1))) member_after
