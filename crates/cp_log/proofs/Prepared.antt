-- What a legal part says of the row that it changes.
use Rattle.std.proofs.Common.{◌≡◌, ◌≤◌, ◌<◌, ◌^◌, ℕ, List, length, refl, sym, ◌∙◌, ap, subst, arith, rules}
use Rattle.std.specs.Prelude.{Bool, true, Option, Some, None, IsSome, IsSomeAnd}
use Rattle.std.specs.declared.alloc.Global.{Global}
use Rattle.std.specs.declared.collections.VecDeque.{VecDeque}
use Rattle.std.specs.Option.{option_map}
use Rattle.std.proofs.lemmas.Bool.Decides.{nat_tests}
use Rattle.cp_base.specs.declared.limits.TheConstants.{LAST_NUMBER}
use Rattle.cp_parts.specs.declared.config.Config.{Config}
use Rattle.cp_parts.specs.declared.log_entry.LogEntry.{LogEntry}
use Rattle.cp_parts.specs.declared.part.Part.TheVariants as part
use Rattle.cp_parts.specs.Parts.{part_grammar}
use Rattle.cp_grammar.specs.Common.{index}
use Rattle.cp_base.specs.declared.identifier.GroupId.{GroupId}
use Rattle.std.specs.Ordering.{nat_cmp}
use Rattle.std.specs.BTreeMap.{get, is_at}
use Rattle.cp_log_rules.specs.Durable.{DurableState, group_at, with_group}
use Rattle.cp_log_rules.specs.Persistent.{PersistentState, with_entries}
use Rattle.cp_log_rules.specs.Configurations.{configs_in}
use Rattle.cp_log_rules.specs.Legal.{if_stands, may_append, may_snapshot}
use Rattle.cp_log.specs.declared.row.Row.{Row}
use Rattle.cp_log.specs.Room.{HasRoom}
use Rattle.cp_log.specs.Rows.{FitsBehind, rows_of, state_of}
use Rattle.cp_log.specs.declared.change.Change.TheVariants as change
use Rattle.cp_log.specs.declared.durable.Durable.{Durable}
use Rattle.cp_log.specs.Durables.{durable_of}
use Rattle.cp_log.specs.Changes.{IsReady}
use Rattle.cp_log.proofs.RowMaps.{lookup_rows}

-- the row stands
pub stands_some : (o : Option Row) (p : Option PersistentState) (may : PersistentState → Bool) → p ≡ option_map state_of o → if_stands may p ≡ true → IsSome o
stands_some None p may is legal =
    let none : if_stands may None ≡ true = subst (λ (q : Option PersistentState). if_stands may q ≡ true) is legal in
    absurd cc
stands_some (Some row) p may is legal = search rules

behind_row : (term after : ℕ) (entries : VecDeque LogEntry Global) (configs : VecDeque Config Global) (row : Row) → may_append term after entries.items (state_of row) ≡ true → configs.items ≡ configs_in after entries.items
    → HasRoom (length entries.items) row.log → HasRoom (length configs.items) row.configs → FitsBehind after entries configs row
behind_row term after entries configs row legal brought room config_room = record {
  from = grind (arith, nat_tests);
  to = grind (arith, nat_tests);
  most = grind (arith, nat_tests);
  brought = brought;
  room = room;
  config_room = config_room;
}

pub fits_behind : (o : Option Row) (p : Option PersistentState) (term after : ℕ) (entries : VecDeque LogEntry Global) (configs : VecDeque Config Global) → p ≡ option_map state_of o
    → if_stands (may_append term after entries.items) p ≡ true → configs.items ≡ configs_in after entries.items
    → IsSomeAnd o (λ row. HasRoom (length entries.items) row.log × HasRoom (length configs.items) row.configs) → IsSomeAnd o (FitsBehind after entries configs)
fits_behind None p term after entries configs is legal brought room = absurd room
fits_behind (Some row) p term after entries configs is legal brought room =
    behind_row term after entries configs row (subst (λ (q : Option PersistentState). if_stands (may_append term after entries.items) q ≡ true) is legal) brought room.0 room.1

above_row : (term at : ℕ) (bytes : List ℕ) (row : Row) → may_snapshot term at bytes (state_of row) ≡ true → row.base < at
above_row term at bytes row legal = grind (arith, nat_tests)

pub above_base : (o : Option Row) (p : Option PersistentState) (term at : ℕ) (bytes : List ℕ) → p ≡ option_map state_of o → if_stands (may_snapshot term at bytes) p ≡ true → IsSomeAnd o (λ row. row.base < at)
above_base None p term at bytes is legal =
    let none : if_stands (may_snapshot term at bytes) None ≡ true = subst (λ (q : Option PersistentState). if_stands (may_snapshot term at bytes) q ≡ true) is legal in
    absurd cc
above_base (Some row) p term at bytes is legal = above_row term at bytes row (subst (λ (q : Option PersistentState). if_stands (may_snapshot term at bytes) q ≡ true) is legal)

-- ---- bounds of the numbers of a part

pub start_bound : (restart : ℕ) → part_grammar.Fits (part.Start restart) → restart ≤ LAST_NUMBER
unfolding part_grammar index
start_bound restart fits = fits.1.0

pub start2_bound : (restart : ℕ) → part_grammar.Fits (part.Start2 restart) → restart ≤ LAST_NUMBER
unfolding part_grammar index
start2_bound restart fits = fits.1.0.0

pub snapshot_bound : (group : GroupId) (term vote at : ℕ) (bytes : List ℕ) → part_grammar.Fits (part.Snapshot group term vote at bytes) → at ≤ LAST_NUMBER
unfolding part_grammar index
snapshot_bound group term vote at bytes fits = fits.1.0.1.1.1.0

-- ---- entries that are ready

-- the same in memory but for the room
same_durable : (before now : Durable) → now.restart ≡ before.restart → now.format ≡ before.format → now.ended ≡ before.ended → rows_of now.rows.entries ≡ rows_of before.rows.entries → durable_of now ≡ durable_of before
same_durable before now restart format ended rows = rw (restart, format, ended, rows) refl

room_by : (o : Option Row) (n k : ℕ) (entries : VecDeque LogEntry Global) (configs : VecDeque Config Global) → n ≡ length entries.items → k ≡ length configs.items
    → IsSomeAnd o (λ row. HasRoom n row.log × HasRoom k row.configs) → IsSomeAnd o (λ row. HasRoom (length entries.items) row.log × HasRoom (length configs.items) row.configs)
room_by None n k entries configs n_is k_is room = room
room_by (Some row) n k entries configs n_is k_is room = (omega (arith, room.0), omega (arith, room.1))

pub entries_ready : (group term vote after n k : ℕ) (entries : VecDeque LogEntry Global) (configs : VecDeque Config Global) (list : List LogEntry) (before now : Durable) → now.restart ≡ before.restart → now.format ≡ before.format → now.ended ≡ before.ended → rows_of now.rows.entries ≡ rows_of before.rows.entries → entries.items ≡ list
    → configs.items ≡ configs_in after list → n ≡ length list → k ≡ length configs.items → if_stands (may_append term after list) (group_at (durable_of before) group) ≡ true
    → IsSomeAnd (get nat_cmp now.rows group) (λ row. HasRoom n row.log × HasRoom k row.configs)
    → IsReady (change.Entries group term vote after entries configs) now (durable_of before) (with_group group (with_entries term vote after list) (durable_of before))
entries_ready group term vote after n k entries configs list before now restart format ended rows items brought n_is k_is legal room =
    let same : durable_of now ≡ durable_of before = same_durable before now restart format ended rows in
    let o : Option Row = get nat_cmp now.rows group in
    let there : group_at (durable_of before) group ≡ option_map state_of o = ap (λ (d : DurableState). group_at d group) (sym same) ∙ lookup_rows (is_at (nat_cmp group)) now.rows.entries in
    let legal_items : if_stands (may_append term after entries.items) (group_at (durable_of before) group) ≡ true = rw items legal in
    let brought_items : configs.items ≡ configs_in after entries.items = rw items brought in
    let size : n ≡ length entries.items = rw items n_is in
    record {
      applied = ap (λ (l : List LogEntry). with_group group (with_entries term vote after l) (durable_of now)) items ∙ ap (with_group group (with_entries term vote after list)) same;
      given_up = same;
      fits = fits_behind o (group_at (durable_of before) group) term after entries configs there legal_items brought_items (room_by o n k entries configs size k_is room);
    }
