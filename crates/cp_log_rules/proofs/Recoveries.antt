-- How recovery goes on, and how far starts count.
use Rattle.std.proofs.Common.{◌≡◌, ◌≤◌, ◌+◌, ◌++◌, ℕ, List, [], ◌∷◌, length, cond, refl, subst, arith}
use Rattle.std.proofs.lemmas.Bool.Decides.{nat_tests}
use Rattle.std.specs.Prelude.{Bool, true, false, Option, Some, None, Result, Ok, Err, IsTrue}
use Rattle.cp_grammar.specs.Grammar.{whole}
use Rattle.cp_parts.specs.declared.part.Part.{Part}
use Rattle.cp_parts.specs.declared.part.Part.TheVariants as part
use Rattle.cp_parts.specs.Parts.{part_grammar}
use Rattle.cp_log_rules.specs.Durable.{DurableState, with_part}
use Rattle.cp_log_rules.specs.Legal.{is_legal}
use Rattle.cp_log_rules.specs.Recovery.{after_read, after_body, or_bad, recovered_from}

-- what follows where the first body is good
follows : (place : ℕ) (o : Option DurableState) (now after : DurableState → Result DurableState ℕ) (t u : DurableState) → ((s : DurableState) → now s ≡ Ok t → after s ≡ Ok u) → or_bad place o now ≡ Ok t → or_bad place o after ≡ Ok u
follows place None now after t u on is = absurd cc
follows place (Some s) now after t u on is = on s is

-- one body more
pub one_more : (place : ℕ) (s t u : DurableState) (bodies : List (List ℕ)) (body : List ℕ) → recovered_from place s bodies ≡ Ok t → after_body body t ≡ Some u → recovered_from place s (bodies ++ body ∷ []) ≡ Ok u
unfolding recovered_from
one_more place s t u [] body is on =
    let same : s ≡ t = cc in
    rw (same, on) refl
one_more place s t u (b ∷ bodies) body is on =
    follows place (after_body b s) (λ v. recovered_from (place + (length b + 5)) v bodies) (λ v. recovered_from (place + (length b + 5)) v (bodies ++ body ∷ [])) t u
    (λ v good. one_more (place + (length b + 5)) v t u bodies body good on) is

-- the state after the body that a legal part spells
pub body_of_part : (body : List ℕ) (p : Part) (s : DurableState) → whole part_grammar body ≡ Ok p → IsTrue (is_legal p s) → after_body body s ≡ Some (with_part p s)
unfolding after_body
body_of_part body p s spelled legal =
    rw (spelled, legal) refl

-- ---- starts count up by one

with_part_restart : (p : Part) (s : DurableState) → is_legal p s ≡ true → (with_part p s).restart ≤ s.restart + 1
with_part_restart (part.Start restart) s legal = grind (arith, nat_tests)
with_part_restart (part.State group term vote) s legal = omega arith
with_part_restart (part.Append group term vote after entries) s legal = omega arith
with_part_restart (part.Begin group first) s legal = omega arith
with_part_restart (part.End group) s legal = omega arith
with_part_restart (part.Snapshot group term vote at bytes) s legal = omega arith
with_part_restart (part.Start2 restart) s legal = grind (arith, nat_tests)

legal_restart : (p : Part) (s t : DurableState) (is : Bool) → is_legal p s ≡ is → cond is (Some (with_part p s)) None ≡ Some t → t.restart ≤ s.restart + 1
legal_restart p s t false legal is = absurd cc
legal_restart p s t true legal is =
    let same : with_part p s ≡ t = cc in
    subst (λ (u : DurableState). u.restart ≤ s.restart + 1) same (with_part_restart p s legal)

read_restart : (read : Result Part ℕ) (s t : DurableState) → after_read read s ≡ Some t → t.restart ≤ s.restart + 1
read_restart (Ok p) s t is = legal_restart p s t (is_legal p s) refl is
read_restart (Err place) s t is = absurd cc

body_restart : (body : List ℕ) (s t : DurableState) → after_body body s ≡ Some t → t.restart ≤ s.restart + 1
unfolding after_body
body_restart body s t is = read_restart (whole part_grammar body) s t is

bad_restart : (place n : ℕ) (o : Option DurableState) (next : DurableState → Result DurableState ℕ) (s t : DurableState) → ((u : DurableState) → o ≡ Some u → u.restart ≤ s.restart + 1)
    → ((u : DurableState) → next u ≡ Ok t → t.restart ≤ u.restart + n) → or_bad place o next ≡ Ok t → t.restart ≤ s.restart + (n + 1)
bad_restart place n None next s t first rest is = absurd cc
bad_restart place n (Some u) next s t first rest is = omega (arith, first u refl, rest u is)

-- at most as many starts as there are bodies
pub restart_bound : (place : ℕ) (s t : DurableState) (bodies : List (List ℕ)) → recovered_from place s bodies ≡ Ok t → t.restart ≤ s.restart + length bodies
unfolding recovered_from
restart_bound place s t [] is =
    let same : s ≡ t = cc in
    subst (λ (u : DurableState). u.restart ≤ s.restart + 0) same (omega arith)
restart_bound place s t (body ∷ bodies) is =
    let all = bad_restart place (length bodies) (after_body body s) (λ u. recovered_from (place + (length body + 5)) u bodies) s t (λ u good. body_restart body s u good)
    (λ u good. restart_bound (place + (length body + 5)) u t bodies good) is in
    omega (arith, all)
