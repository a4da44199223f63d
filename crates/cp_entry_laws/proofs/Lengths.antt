-- How long the entries of what has expired are.
use Rattle.std.proofs.Common.{◌≡◌, ◌+◌, ◌*◌, ℕ, List, [], ◌∷◌, ◌++◌, length, refl, arith, length-append}
use Rattle.std.specs.Int.{w64}
use Rattle.cp_base.specs.declared.identifier.Invocation.{Invocation}
use Rattle.cp_codec.specs.Fields.{big_endian}
use Rattle.cp_grammar.specs.Lists.{ItemsFit, items_spelling, each}
use Rattle.cp_grammar.specs.Common.{client_id, index, index_pair, invocation, thread_no}
use Rattle.cp_ops.specs.declared.entry.Entry.TheVariants as entry
use Rattle.cp_ops.specs.Entries.{entry_within}
use Rattle.cp_ops.specs.EntryValues.{session_list}
use Rattle.cp_entry_laws.specs.Laws.{ExpiriesAreShort}

pairs_length : (before es : List (ℕ × ℕ)) → length (items_spelling (each index_pair) before es) ≡ 16 * length es
unfolding items_spelling each index_pair index big_endian
pairs_length before [] = refl
pairs_length before (e ∷ es) =
    let rest = pairs_length (before ++ e ∷ []) es in
    omega (arith, length-append ((each index_pair before).spelling e) (items_spelling (each index_pair) (before ++ e ∷ []) es), rest)

calls_length : (before cs : List Invocation) → ItemsFit (each invocation) before cs → length (items_spelling (each invocation) before cs) ≡ 25 * length cs
unfolding items_spelling ItemsFit each invocation client_id thread_no index big_endian
calls_length before [] f = refl
calls_length before (c ∷ cs) f =
    let rest = calls_length (before ++ c ∷ []) cs f.1 in
    let client : length c.client.0 ≡ 16 = f.0.0.0.0 in
    omega (arith, length-append ((each invocation before).spelling c) (items_spelling (each invocation) (before ++ c ∷ []) cs), length-append c.client.0 (c.thread.0 ∷ big_endian w64 c.number), rest, client)

pub expiries_are_short : ExpiriesAreShort
unfolding entry_within session_list index_pair big_endian
expiries_are_short (entry.SessionsExpired pairs) is f =
    let few = f.1.0.0.0 in
    omega (arith, pairs_length [] pairs, few)
expiries_are_short (entry.WaitsExpired calls) is f =
    let few = f.1.0.0.0 in
    omega (arith, calls_length [] calls f.1.0.1.1, few)
expiries_are_short entry.Empty is f = absurd cc
expiries_are_short (entry.Call call op) is f = absurd cc
expiries_are_short (entry.Members call plan list) is f = absurd cc
expiries_are_short (entry.Destroy group) is f = absurd cc
expiries_are_short (entry.Destroyed group) is f = absurd cc
expiries_are_short (entry.Moved group index list) is f = absurd cc
expiries_are_short (entry.Left member) is f = absurd cc
