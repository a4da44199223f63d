-- Lists that are taken from their ends.
use Rattle.std.proofs.Common.{◌≡◌, List, [], ◌∷◌, ◌++◌, length, map, reverse, ap, sym, ◌∙◌, append_assoc, arith}
use Rattle.std.proofs.lemmas.List.{append-nil, length-reverse, reverse-append, reverse-reverse}

-- the last of a list is the first of the list turned round
pub first_of : {X : Type 0} (x : X) (all rest : List X) → all ≡ rest ++ x ∷ [] → reverse all ≡ x ∷ reverse rest
first_of x all rest split = ap reverse split ∙ reverse-append rest (x ∷ [])

pub none_left : {X : Type 0} (all : List X) → length all ≡ 0 → length (reverse all) ≡ 0
none_left all e = length-reverse all ∙ e

pub turned_twice : {X : Type 0} (all : List X) → reverse (reverse all) ≡ all
turned_twice all = reverse-reverse all

-- one item more is shown
pub one_shown : {X Y : Type 0} (f : X → Y) (out before more : List Y) (all rest given : List X) (x : X) → all ≡ rest ++ x ∷ [] → more ≡ out ++ f x ∷ []
    → out ++ map f (reverse all) ≡ before ++ map f given → more ++ map f (reverse rest) ≡ before ++ map f given
one_shown f out before more all rest given x split pushed shown =
    ap (λ m. m ++ map f (reverse rest)) pushed
    ∙ append_assoc out (f x ∷ []) (map f (reverse rest))
    ∙ sym (ap (λ xs. out ++ map f xs) (first_of x all rest split))
    ∙ shown

-- all items are shown
pub all_shown : {X Y : Type 0} (f : X → Y) (out before : List Y) (left given : List X) → length left ≡ 0
    → out ++ map f (reverse left) ≡ before ++ map f given → out ≡ before ++ map f given
all_shown f out before [] given none shown = sym (append-nil out) ∙ shown
all_shown f out before (x ∷ left) given none shown = absurd (omega arith)
