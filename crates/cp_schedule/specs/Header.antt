-- The header of a schedule, line by line.
use Rattle.std.specs.Prelude.{ℕ, ◌-◌, ◌^◌, ◌==◌, ◌&&◌, ◌||◌, not, max, Bool, true, nat_le, nat_lt, List, length, Option, bytes_eq, codes}
use Rattle.std.specs.List.{list_any}
use Rattle.cp_base.specs.Text.{line}
use Rattle.cp_grammar.specs.Grammar.{Grammar, always, one_field, checked, seq, ◌then◌, keyed, mapped, no_case}
use Rattle.cp_grammar.specs.Words.{Token, token, keyword, number_word}
use Rattle.cp_grammar.specs.Lists.{until}
use Rattle.cp_call_words.specs.Values.{between_word, name_word}
use Rattle.cp_events.specs.declared.plan.Plan.{Plan}
use Rattle.cp_events.specs.declared.plan.HoldLimit.{HoldLimit}
use Rattle.cp_events.specs.declared.plan.Groups.{Groups}
use Rattle.cp_events.specs.declared.plan.Groups.TheVariants as groups
use Rattle.cp_events.specs.declared.plan.ReadsBy.{ReadsBy}
use Rattle.cp_events.specs.declared.plan.ReadsBy.TheVariants as reads
use Rattle.cp_schedule.specs.Fronts.{after, optional}

-- `cp 1`, `members N`
unfoldable pub opening : Grammar ℕ ℕ
opening = after (line (codes "cp 1")) (after (codes "members ") (number_word 10 9))

-- 1, 3, 5 or 7, and no more than there are members; 1 where there are none
abbrev pub is_size : ℕ → ℕ → Bool
is_size members size = (size == 1 || size == 3 || size == 5 || size == 7) && nat_le size (max members 1)

-- `size S`
unfoldable pub size_line : ℕ → Grammar ℕ ℕ
size_line members = after (codes "size ") (checked (number_word 10 7) (is_size members))

-- `clients C`
unfoldable pub clients_line : Grammar ℕ ℕ
clients_line = after (codes "clients ") (between_word 10 1 16)

-- `snapshot K`
unfoldable pub snapshot_line : Grammar ℕ (Option ℕ)
snapshot_line = optional (codes "snapshot ") (between_word 10 1 1000000)

abbrev pub groups_word : Groups → Token
groups_word groups.Fixed = (codes "fixed", 10)
groups_word groups.Managed = (codes "managed", 10)

-- groups are managed by members
abbrev pub may_have : ℕ → Groups → Bool
may_have members groups.Fixed = true
may_have members groups.Managed = nat_lt 0 members

unfoldable pub groups_words : Grammar ℕ Groups
groups_words = keyed groups_word token
    (keyword (codes "fixed") 10 (always groups.Fixed)
    (keyword (codes "managed") 10 (always groups.Managed)
    no_case))

-- a word with the line feed behind it is one field: another word fails where it begins, and not behind its line
unfoldable pub which_groups : Grammar ℕ Groups
which_groups = one_field groups_words

-- `groups fixed`, `groups managed`
unfoldable pub groups_line : ℕ → Grammar ℕ (Option Groups)
groups_line members = optional (codes "groups ") (checked which_groups (may_have members))

-- whether a lock has a limit
abbrev pub is_limited : List HoldLimit → List ℕ → Bool
is_limited limits lock = list_any (λ l. bytes_eq l.lock lock) limits

-- at most 16 limits, each of another lock
abbrev pub may_follow : List HoldLimit → HoldLimit → Bool
may_follow before limit = nat_lt (length before) 16 && not (is_limited before limit.lock)

abbrev pub one_limit : Grammar ℕ HoldLimit
one_limit = mapped (λ p. record { lock = p.0; holds = p.1 }) (λ l. (l.lock, l.holds)) (name_word 32 then between_word 10 1 (2 ^ 31 - 1))

-- `limit NAME L`, behind other such lines
unfoldable pub limit_line : List HoldLimit → Grammar ℕ (Option HoldLimit)
limit_line before = optional (codes "limit ") (checked one_limit (may_follow before))

-- they end where no line of theirs follows
unfoldable pub limit_lines : Grammar ℕ (List HoldLimit)
limit_lines = until limit_line

abbrev pub reads_word : ReadsBy → Token
reads_word reads.Entry = (codes "entry", 10)
reads_word reads.Round = (codes "round", 10)

unfoldable pub reads_words : Grammar ℕ ReadsBy
reads_words = keyed reads_word token
    (keyword (codes "entry") 10 (always reads.Entry)
    (keyword (codes "round") 10 (always reads.Round)
    no_case))

unfoldable pub which_reads : Grammar ℕ ReadsBy
which_reads = one_field reads_words

-- `reads entry`, `reads round`
unfoldable pub reads_line : Grammar ℕ (Option ReadsBy)
reads_line = optional (codes "reads ") which_reads

abbrev pub Lines : Type 0
Lines = ℕ × (ℕ × (ℕ × (Option ℕ × (Option Groups × (List HoldLimit × Option ReadsBy)))))

abbrev pub plan_of : Lines → Plan
plan_of p = record { members = p.0; size = p.1.0; clients = p.1.1.0; snapshot = p.1.1.1.0; groups = p.1.1.1.1.0; limits = p.1.1.1.1.1.0; reads = p.1.1.1.1.1.1 }

abbrev pub lines_of : Plan → Lines
lines_of h = (h.members, (h.size, (h.clients, (h.snapshot, (h.groups, (h.limits, h.reads))))))

-- the lines behind `members N`
unfoldable pub header_behind : ℕ → Grammar ℕ (ℕ × (ℕ × (Option ℕ × (Option Groups × (List HoldLimit × Option ReadsBy)))))
header_behind members = size_line members then clients_line then snapshot_line then groups_line members then limit_lines then reads_line

-- The header: each line that may be left out stands at most once, in this order; limits of locks up to 16 times.
unfoldable pub header : Grammar ℕ Plan
header = mapped plan_of lines_of (seq opening header_behind)
