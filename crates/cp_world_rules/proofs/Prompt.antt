-- Each request is committed in its own event.
use Rattle.std.proofs.Common.{◌≡◌, List, [], ◌∷◌, ◌++◌, refl, sym, ap, ◌∙◌, map, append_assoc}
use Rattle.std.proofs.lemmas.List.{map-append}
use Rattle.cp_base.specs.declared.identifier.ClientNo.{ClientNo}
use Rattle.cp_ops.specs.declared.entry.Entry.TheVariants as entry
use Rattle.cp_client_rules.specs.Clients.{Asked, Did}
use Rattle.cp_world_rules.specs.Rows.{Committed, committed_of}
use Rattle.cp_world_rules.specs.World.{World, begins_now, commit, commit_all, does, note}

-- the entries are those of the requests
abbrev pub AllCommitted : World → Type 0
AllCommitted w = w.history ≡ map committed_of w.requests

none-behind : (xs : List Committed) → xs ++ [] ≡ xs
none-behind [] = refl
none-behind (x ∷ xs) = ap (λ rest. x ∷ rest) (none-behind xs)

commits-entries : (asked : List Asked) (w : World) → (commit_all asked w).history ≡ w.history ++ map (λ a. record { event = w.shown.number; entry = entry.Call a.call a.op }) asked
commits-entries [] w = sym (none-behind w.history)
commits-entries (a ∷ asked) w = commits-entries asked (commit a w) ∙ append_assoc w.history (record { event = w.shown.number; entry = entry.Call a.call a.op } ∷ []) (map (λ b. record { event = w.shown.number; entry = entry.Call b.call b.op }) asked)

commits-requests : (asked : List Asked) (w : World) → (commit_all asked w).requests ≡ w.requests
commits-requests [] w = refl
commits-requests (a ∷ asked) w = commits-requests asked (commit a w)

asked-entries : (w : World) (asked : List Asked) → map (λ (a : Asked). record { event = w.shown.number; entry = entry.Call a.call a.op }) asked ≡ map committed_of (map (begins_now w) asked)
asked-entries w [] = refl
asked-entries w (a ∷ asked) = ap (λ rest. record { event = w.shown.number; entry = entry.Call a.call a.op } ∷ rest) (asked-entries w asked)

pub does-committed : (me : ClientNo) (d : Did) (w : World) → AllCommitted w → AllCommitted (does me d w)
does-committed me d w h = commits-entries d.asked (note me d w)
    ∙ (ap (λ (rows : List Committed). rows ++ map (λ (a : Asked). record { event = w.shown.number; entry = entry.Call a.call a.op }) d.asked) h
    ∙ (ap (λ (rows : List Committed). map committed_of w.requests ++ rows) (asked-entries w d.asked)
    ∙ (sym (map-append committed_of w.requests (map (begins_now w) d.asked))
    ∙ ap (map committed_of) (sym (commits-requests d.asked (note me d w))))))
