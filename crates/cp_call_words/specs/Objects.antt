-- Objects as a call names them: one word, which fails at its first byte.
use Rattle.std.specs.Prelude.{ℕ, Bool, true, cond, ◌&&◌, ◌==◌, List, [], ◌∷◌, ◌++◌, Option, Some, None}
use Rattle.cp_grammar.specs.Grammar.{Grammar, checked, mapped}
use Rattle.cp_grammar.specs.Words.{word}
use Rattle.cp_call_words.specs.Values.{is_name, is_group}
use Rattle.cp_events.specs.declared.object.Object.{Object}

-- the bytes before the first @, and those from it on
unfoldable pub before_at : List ℕ → List ℕ
before_at [] = []
before_at (b ∷ bytes) = cond (b == 64) [] (b ∷ before_at bytes)

unfoldable pub from_at : List ℕ → List ℕ
from_at [] = []
from_at (b ∷ bytes) = cond (b == 64) (b ∷ bytes) (from_at bytes)

abbrev pub object_with : List ℕ → Option (List ℕ) → Object
object_with name group = record { name = name; group = group }

abbrev pub object_parted : List ℕ → List ℕ → Object
object_parted name [] = object_with name None
object_parted name (at ∷ group) = object_with name (Some group)

abbrev pub object_of : List ℕ → Object
object_of text = object_parted (before_at text) (from_at text)

abbrev pub group_text : Option (List ℕ) → List ℕ
group_text None = []
group_text (Some group) = 64 ∷ group

-- NAME, or NAME@GROUP
abbrev pub object_text : Object → List ℕ
object_text object = object.name ++ group_text object.group

abbrev pub may_stand_in : Bool → Option (List ℕ) → Bool
may_stand_in managed None = true
may_stand_in managed (Some group) = is_group managed group

abbrev pub is_object : Bool → Object → Bool
is_object managed object = is_name object.name && may_stand_in managed object.group

-- an object, and a space after it
unfoldable pub object_word : Bool → Grammar ℕ Object
object_word managed = mapped object_of object_text (checked (word 32) (λ text. is_object managed (object_of text)))
