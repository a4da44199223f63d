-- The configurations that entries bring.
use Rattle.std.proofs.Common.{◌≡◌, ℕ, Bool, true, false, cond, List, [], ◌∷◌, length, Option, Some, Result, Ok, Err, refl, ap, sym, subst}
use Rattle.std.specs.Prelude.{◌==◌, ◌-◌}
use Rattle.std.specs.Option.{option_map}
use Rattle.std.proofs.lemmas.Bool.{eqb-true}
use Rattle.std.proofs.lemmas.Option.{same_Some}
use Rattle.cp_base.specs.declared.identifier.Invocation.{Invocation}
use Rattle.cp_codec.specs.Exact.{IsByte}
use Rattle.cp_grammar.specs.Grammar.{Read, ◌>>=◌, placed, whole, ◌then◌}
use Rattle.cp_grammar.specs.Fields.{mark_reading, optional}
use Rattle.cp_grammar.specs.Common.{invocation, members}
use Rattle.cp_grammar.specs.Laws.{whole_again}
use Rattle.cp_parts.specs.declared.config.Config.{Config}
use Rattle.cp_parts.specs.Configs.{plan_number, members_entry, brought, brought_at, config_in}
use Rattle.cp_parts.specs.Laws.{members_entry_lawful}
use Rattle.cp_agreement_facts.specs.Entries.{members_in}
use Rattle.cp_ops.specs.declared.entry.Entry.{Entry}
use Rattle.cp_ops.specs.declared.entry.Entry.TheVariants as entry
use Rattle.cp_ops.specs.Entries.{entry_grammar, entry_within}
use Rattle.cp_ops.specs.EntryValues.{optional_invocation}
use Rattle.cp_entry_laws.specs.Laws.{ConfigsAreMembersEntries, EntriesBringConfigs, config_of}

-- ---- an entry brings its configuration

brings : (at : ℕ) (e : Entry) → entry_grammar.Fits e → config_in at (entry_grammar.spelling e) ≡ config_of at e
unfolding config_in entry_within members_entry optional_invocation mark_reading whole
brings at (entry.Members call plan list) f = ap (brought_at at) (whole_again IsByte members_entry members_entry_lawful (call, (plan, list)) f.1.0)
brings at entry.Empty f = refl
brings at (entry.Call call op) f = refl
brings at (entry.SessionsExpired pairs) f = refl
brings at (entry.WaitsExpired calls) f = refl
brings at (entry.Destroy group) f = refl
brings at (entry.Destroyed group) f = refl
brings at (entry.Moved group index list) f = refl
brings at (entry.Left member) f = refl

pub entries_bring_configs : EntriesBringConfigs
unfolding members_in
entries_bring_configs = record {
  config = brings;
  members = λ e f. ap (option_map (λ (c : Config). c.members)) (brings 0 e f);
}

-- ---- bytes that bring one

abbrev Parts : Type 0
Parts = Option Invocation × (ℕ × List ℕ)

abbrev made : Parts → Entry
made p = entry.Members p.0 p.1.0 p.1.1

-- what is read of the whole, as a value made of it
made_whole : (n : ℕ) (r : Read ℕ Parts) (p : Parts) → placed n r ≡ Ok p → placed n (r >>= λ x. Ok (made x.0, x.1)) ≡ Ok (made p)
made_whole n (Ok x) p is = by (length x.1 == 0) is where
  by : (b : Bool) → cond b (Ok x.0) (Err (n - length x.1)) ≡ Ok p → cond b (Ok (made x.0)) (Err (n - length x.1)) ≡ Ok (made p)
  by true is = let same : x.0 ≡ p = cc in ap (λ (y : Parts). Ok (made y)) same
  by false is = absurd cc
made_whole n (Err left) p is = absurd cc

-- the first byte is the mark
marked_whole : (bytes : List ℕ) (p : Parts) → whole members_entry bytes ≡ Ok p → whole entry_grammar bytes ≡ Ok (made p)
unfolding whole members_entry entry_within optional_invocation mark_reading
marked_whole [] p is = absurd cc
marked_whole (b ∷ bytes) p is = by (b == 4) refl is where
  by : (four : Bool) → (b == 4) ≡ four
      → placed (length (b ∷ bytes)) (cond four (Ok bytes) (Err (length (b ∷ bytes))) >>= λ rest. (optional invocation then plan_number then members).reading rest) ≡ Ok p
      → placed (length (b ∷ bytes)) (entry_grammar.reading (b ∷ bytes)) ≡ Ok (made p)
  by true four is = subst (λ (c : ℕ). placed (length (c ∷ bytes)) (entry_grammar.reading (c ∷ bytes)) ≡ Ok (made p)) (sym (eqb-true b 4 four))
      (made_whole (length (b ∷ bytes)) ((optional invocation then plan_number then members).reading bytes) p is)
  by false four is = absurd cc

pub configs_are_members_entries : ConfigsAreMembersEntries
unfolding config_in
configs_are_members_entries at bytes c is = by (whole members_entry bytes) refl is where
  by : (r : Result Parts ℕ) → whole members_entry bytes ≡ r → brought_at at r ≡ Some c
      → (c.index ≡ at) × ((call : Option Invocation) × (whole entry_grammar bytes ≡ Ok (entry.Members call c.plan c.members)))
  by (Ok p) was is =
      let same : brought at p ≡ c = same_Some (brought at p) c is in
      subst (λ (d : Config). (d.index ≡ at) × ((call : Option Invocation) × (whole entry_grammar bytes ≡ Ok (entry.Members call d.plan d.members)))) same
      (refl, (p.0, marked_whole bytes p was))
  by (Err place) was is = absurd cc
