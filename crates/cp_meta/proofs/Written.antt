-- The spelling of a state is that of its lists, row by row.
use Rattle.std.proofs.Common.{◌≡◌, ℕ, ◌+◌, List, [], ◌∷◌, ◌++◌, length, refl, ap, sym, subst, ◌∙◌, append_assoc}
use Rattle.std.specs.Int.{w32}
use Rattle.std.proofs.lemmas.List.{append-nil}
use Rattle.std.specs.List.{AllByRecursion}
use Rattle.cp_codec.specs.Fields.{big_endian}
use Rattle.cp_grammar.specs.Grammar.{Grammar}
use Rattle.cp_grammar.specs.Lists.{items_spelling}
use Rattle.cp_grammar.specs.Common.{member_after}
use Rattle.cp_meta_state.specs.MetaState.{MetaState, Standings, Groups, Moves}
use Rattle.cp_meta.specs.Rows.{number_behind, member_row, group_row, destroyed_row, move_row}
use Rattle.cp_meta.specs.Bytes.{member_list, group_list, destroyed_list, move_list, lists_grammar, state_grammar}
use Rattle.cp_meta.specs.Spelled.{each_spelled, list_spelled}

items_each : {A : Type 0} (item : List A → Grammar ℕ A) → ((before : List A) (x : A) → (item before).spelling x ≡ (item []).spelling x) → (before xs : List A) → items_spelling item before xs ≡ each_spelled (item []) xs
unfolding items_spelling each_spelled
items_each item same before [] = refl
items_each item same before (x ∷ xs) = ap (λ (front : List ℕ). front ++ items_spelling item (before ++ x ∷ []) xs) (same before x) ∙ ap (λ (rest : List ℕ). (item []).spelling x ++ rest) (items_each item same (before ++ x ∷ []) xs)

counted : {A : Type 0} (item : List A → Grammar ℕ A) → ((before : List A) (x : A) → (item before).spelling x ≡ (item []).spelling x) → (xs : List A) → big_endian w32 (length xs) ++ items_spelling item [] xs ≡ list_spelled (item []) xs
counted item same xs = ap (λ (rest : List ℕ). big_endian w32 (length xs) ++ rest) (items_each item same [] xs)

members_are : (rows : Standings) → member_list.spelling rows ≡ list_spelled (member_row []) rows
unfolding member_list member_row member_after
members_are rows = counted member_row (λ before x. refl) rows

groups_are : (rows : Groups) → group_list.spelling rows ≡ list_spelled (group_row []) rows
unfolding group_list group_row number_behind
groups_are rows = counted group_row (λ before x. refl) rows

destroyed_are : (rows : List (ℕ × Unit {0})) → destroyed_list.spelling rows ≡ list_spelled (destroyed_row []) rows
unfolding destroyed_list destroyed_row number_behind
destroyed_are rows = counted destroyed_row (λ before x. refl) rows

moves_are : (rows : Moves) → move_list.spelling rows ≡ list_spelled (move_row []) rows
unfolding move_list move_row number_behind
moves_are rows = counted move_row (λ before x. refl) rows

lists_are : (s : MetaState) → state_grammar.spelling s ≡ list_spelled (member_row []) s.members ++ (list_spelled (group_row []) s.groups ++ (list_spelled (destroyed_row []) s.destroyed ++ list_spelled (move_row []) s.moves))
unfolding state_grammar lists_grammar
lists_are s = rw (members_are s.members, groups_are s.groups, destroyed_are s.destroyed, moves_are s.moves) refl

pub lists_written : (s : MetaState) (out a b c d : List ℕ) → a ≡ out ++ list_spelled (member_row []) s.members → b ≡ a ++ list_spelled (group_row []) s.groups → c ≡ b ++ list_spelled (destroyed_row []) s.destroyed → d ≡ c ++ list_spelled (move_row []) s.moves → d ≡ out ++ state_grammar.spelling s
lists_written s out a b c d first second third last =
    let regrouped : (m g e v : List ℕ) → (((out ++ m) ++ g) ++ e) ++ v ≡ out ++ (m ++ (g ++ (e ++ v))) = λ m g e v. simp append_assoc in
    last
    ∙ ap (λ (x : List ℕ). x ++ list_spelled (move_row []) s.moves) (third ∙ ap (λ (x : List ℕ). x ++ list_spelled (destroyed_row []) s.destroyed) (second ∙ ap (λ (x : List ℕ). x ++ list_spelled (group_row []) s.groups) first))
    ∙ regrouped (list_spelled (member_row []) s.members) (list_spelled (group_row []) s.groups) (list_spelled (destroyed_row []) s.destroyed) (list_spelled (move_row []) s.moves)
    ∙ ap (λ (x : List ℕ). out ++ x) (sym (lists_are s))

-- ---- rows, one after another

module _ {A : Type 0} where
  pub row_written : (g : Grammar ℕ A) (out next total : List ℕ) (x : A) (left rest : List A) → left ≡ x ∷ rest → next ≡ out ++ g.spelling x → out ++ each_spelled g left ≡ total → next ++ each_spelled g rest ≡ total
  unfolding each_spelled
  row_written g out next total x left rest first push so_far =
      ap (λ (n : List ℕ). n ++ each_spelled g rest) push ∙ append_assoc out (g.spelling x) (each_spelled g rest) ∙ ap (λ (xs : List A). out ++ each_spelled g xs) (sym first) ∙ so_far

  pub all_written : (g : Grammar ℕ A) (out total : List ℕ) (left : List A) → left ≡ [] → out ++ each_spelled g left ≡ total → out ≡ total
  unfolding each_spelled
  all_written g out total left none so_far = sym (append-nil out) ∙ ap (λ (xs : List A). out ++ each_spelled g xs) (sym none) ∙ so_far

  pub first_fits : (P : A → Type 0) (left rest : List A) (x : A) → left ≡ x ∷ rest → AllByRecursion P left → P x
  first_fits P left rest x first all = (subst (λ xs. AllByRecursion P xs) first all).0

  pub rest_fits : (P : A → Type 0) (left rest : List A) (x : A) → left ≡ x ∷ rest → AllByRecursion P left → AllByRecursion P rest
  rest_fits P left rest x first all = (subst (λ xs. AllByRecursion P xs) first all).1
