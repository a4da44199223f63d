-- A message: its version, its kind, from whom to whom, and what it says.
use Rattle.std.specs.Prelude.{◌≡◌, ℕ, Bool, if◌then◌else◌, List, ◌++◌, Result, Ok, Err, nat_le, ◌==◌, ◌&&◌, ◌||◌}
use Rattle.cp_base.specs.declared.limits.TheConstants.{MOST_ENTRY, MOST_MEMBER, OLDER_MOST_ENTRY}
use Rattle.cp_grammar.specs.Grammar.{Grammar, checked, keyed, mapped, seq, ◌then◌, whole}
use Rattle.cp_grammar.specs.Fields.{byte, at_least, marked}
use Rattle.cp_message.specs.Bodies.{kind_of, body_within}
use Rattle.cp_message.specs.declared.message.Message.{Message}

-- members are 1 to 9, clients 17 to 32
abbrev pub is_address : ℕ → Bool
is_address n = (nat_le 1 n && nat_le n MOST_MEMBER) || nat_le 17 n

unfoldable pub address : Grammar ℕ ℕ
address = checked (byte 32) is_address

-- the highest kind of a version
abbrev pub most_kind : ℕ → ℕ
most_kind version = if version == 1 then 16 else 18

-- the most bytes that entries, operations, answers and refusals have in a version
abbrev pub most_entry : ℕ → ℕ
most_entry version = if version == 1 then OLDER_MOST_ENTRY else MOST_ENTRY

unfoldable pub headed : ℕ → ℕ → Grammar ℕ Message
headed most kind = mapped (λ p. record { from = p.0; to = p.1.0; body = p.1.1 }) (λ m. (m.from, (m.to, m.body)))
    (address then address then body_within most kind)

-- what follows the version
unfoldable pub fields : ℕ → Grammar ℕ Message
fields version = keyed (λ m. kind_of m.body) (at_least 1 (byte (most_kind version))) (headed (most_entry version))

-- the newest form, which is the one that is written
abbrev pub message_grammar : Grammar ℕ Message
message_grammar = marked 2 (fields 2)

-- a message with the version in which it is spelled
unfoldable pub any_version : Grammar ℕ (ℕ × Message)
any_version = seq (at_least 1 (byte 2)) fields

-- The bytes spell the message in this version.
abbrev pub Spells : ℕ → Message → List ℕ → Type 0
Spells version message bytes = any_version.Fits (version, message) × (bytes ≡ any_version.spelling (version, message))

abbrev pub unversioned : Result (ℕ × Message) ℕ → Result Message ℕ
unversioned (Ok p) = Ok p.1
unversioned (Err place) = Err place

-- The message that the bytes spell in some version, all of them, else the place at which they fail.
abbrev pub message_told : List ℕ → Result Message ℕ
message_told bytes = unversioned (whole any_version bytes)

-- No spelling begins another, whatever the versions.
abbrev pub NoMessageBeginsAnother : Type 0
NoMessageBeginsAnother = (x y : ℕ × Message) (a b : List ℕ) → any_version.Fits x → any_version.Fits y → any_version.spelling x ++ a ≡ any_version.spelling y ++ b → (x ≡ y) × (a ≡ b)
