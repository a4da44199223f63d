-- What rules that send nothing have done.
use Rattle.std.proofs.Common.{◌≡◌, List, [], ◌++◌, sym}
use Rattle.std.proofs.lemmas.List.{append-nil}

pub same : {A : Type 0} (xs : List A) → xs ≡ xs ++ []
same xs = sym (append-nil xs)
