-- What has a spelling under a bound has one under a larger bound.
use Rattle.std.proofs.Common.{ℕ, ◌≤◌, List, [], ◌∷◌, ◌++◌, arith}
use Rattle.cp_grammar.specs.Lists.{ItemsFit, each}
use Rattle.cp_message.specs.Entries.{log_entry, entries_after}
use Rattle.cp_message.specs.Appends.{append_within}
use Rattle.cp_message.specs.declared.entries.LogEntry.{LogEntry}
use Rattle.cp_message.specs.declared.append.Append.{Append}

entries_fit : (a b : ℕ) → a ≤ b → (before entries : List LogEntry) → ItemsFit (each (log_entry a)) before entries → ItemsFit (each (log_entry b)) before entries
unfolding ItemsFit each log_entry
entries_fit a b le before [] fits = tt
entries_fit a b le before (x ∷ xs) fits = (((fits.0.0.0, omega (arith, fits.0.0.1)), fits.0.1), entries_fit a b le (before ++ x ∷ []) xs fits.1)

pub append_fits : (a b : ℕ) → a ≤ b → (x : Append) → (append_within a).Fits x → (append_within b).Fits x
unfolding append_within entries_after
append_fits a b le x fits =
    let es = fits.0.1.1.1.1.1 in
    ((fits.0.0, (fits.0.1.0, (fits.0.1.1.0, (fits.0.1.1.1.0, (fits.0.1.1.1.1.0, (es.0, (es.1.0, entries_fit a b le [] x.entries es.1.1))))))), fits.1)
