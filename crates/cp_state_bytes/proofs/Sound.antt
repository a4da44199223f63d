-- The states that have a spelling are the sound ones.
use Rattle.std.proofs.Common.{◌≡◌, ℕ, ◌-◌, ◌^◌, ◌≤◌, true, List, length, Result, Ok, Err, refl, ap, subst, arith}
use Rattle.std.specs.List.{AllByRecursion}
use Rattle.std.proofs.lemmas.Bool.{and_parts, and_from}
use Rattle.cp_codec.specs.Exact.{IsByte}
use Rattle.cp_grammar.specs.Grammar.{whole}
use Rattle.cp_grammar.specs.Laws.{whole_again, whole_takes}
use Rattle.cp_group_state.specs.GroupState.{GroupState}
use Rattle.cp_group_ranges.specs.States.{IsSound}
use Rattle.cp_group_ranges.proofs.Counts.{holdings-stand}
use Rattle.cp_lock.specs.Tables.{are_whole}
use Rattle.cp_state_bytes.specs.declared.version.Version.{Version}
use Rattle.cp_state_bytes.specs.declared.version.Version.TheVariants as versions
use Rattle.cp_state_bytes.specs.Versions.{version_grammar}
use Rattle.cp_state_bytes.proofs.Listed.{session_list_fits, session_list_facts, lock_list_fits, lock_list_facts, semaphore_list_fits, semaphore_list_facts, holding_list_fits, holding_list_facts, latch_list_fits, latch_list_facts, long_list_fits, long_list_facts, ref_list_fits, ref_list_facts, gone_list_fits, gone_list_facts, waiter_list_fits, waiter_list_facts, memory_list_fits, memory_list_facts, pair_list_fits, pair_list_facts}
use Rattle.cp_state_bytes.specs.Rules.{clients_differ, calls_differ, are_balanced, holdings_stand, waiters_stand, is_consistent}
use Rattle.cp_state_bytes.specs.States.{owners, objects, calls, lists_in, state_in, any_version, unversioned, spelled, restored, HasCounts}
use Rattle.cp_state_bytes.proofs.StateLaws.{any_version_lawful}
use Rattle.cp_state_bytes.proofs.Consistent.{calls_are, calls_pass, waiters_are, waiters_pass, sessions_are, sessions_pass, balanced_are, balanced_pass, holdings_pass, locks_are, locks_pass}

-- ---- a sound state has a spelling

consistent : (s : GroupState) → IsSound s → is_consistent s ≡ true
unfolding is_consistent
consistent s h =
    and_from (are_whole s.locks) _ (locks_pass s.locks h.fits.locks)
    (and_from (clients_differ s.sessions) _ (sessions_pass s.sessions h.ordered.sessions h.one_session)
    (and_from (calls_differ s.waiters) _ (calls_pass s.waiters h.calls_differ)
    (and_from (are_balanced s.semaphores) _ (balanced_pass s.semaphores h.ordered.semaphores h.balanced)
    (and_from (holdings_stand s.semaphores) _ (holdings_pass s.semaphores h.ordered.holdings (holdings-stand s h))
    (waiters_pass s.semaphores.rows s.waiters h.waiters_stand)))))

pub state_fits : (s : GroupState) → IsSound s → HasCounts s → (state_in versions.Third).Fits s
unfolding state_in lists_in owners objects calls
state_fits s h counts =
    let limits = h.fits.limits in
    let holdings : length s.semaphores.holdings ≤ 2 ^ 32 - 1 = omega (arith, counts.holdings) in
    let memory : length s.memory ≤ 2 ^ 32 - 1 = omega (arith, counts.memory) in (
      (
        (
          (
            h.fits.destroyed_group,
            (
              session_list_fits s.sessions (record { few = limits.sessions; each = h.fits.sessions; rising = h.ordered.sessions }),
              (
                lock_list_fits s.locks (record { few = limits.locks; each = h.fits.locks; rising = h.ordered.locks }),
                (
                  semaphore_list_fits s.semaphores.rows (record { few = limits.semaphores; each = h.fits.semaphores; rising = h.ordered.semaphores }),
                  holding_list_fits s.semaphores.holdings (record { few = holdings; each = h.fits.holdings; rising = h.ordered.holdings }),
                ),
              ),
            ),
          ),
          (
            (
              latch_list_fits s.latches (record { few = limits.latches; each = h.fits.latches; rising = h.ordered.latches }) limits.counted,
              (
                long_list_fits s.longs (record { few = limits.longs; each = h.fits.longs; rising = h.ordered.longs }),
                (
                  ref_list_fits s.refs (record { few = limits.refs; each = h.fits.refs; rising = h.ordered.refs }),
                  gone_list_fits s.gone (record { few = limits.gone; each = h.fits.gone; rising = h.ordered.gone }),
                ),
              ),
            ),
            (
              waiter_list_fits s.waiters limits.waiters h.fits.waiters,
              (
                memory_list_fits s.memory (record { few = memory; each = h.fits.memory; rising = h.ordered.memory }),
                pair_list_fits s.maps (record { few = limits.maps; each = h.fits.maps; rising = h.ordered.maps }),
              ),
            ),
          ),
        ),
        refl,
      ),
      consistent s h,
    )

-- ---- what has a spelling is sound

pub fits_counts : (version : Version) (s : GroupState) → (state_in version).Fits s → HasCounts s
unfolding state_in lists_in owners objects calls
fits_counts version s h =
    let holdings = holding_list_facts s.semaphores.holdings h.0.0.0.1.1.1.1 in
    let memory = memory_list_facts version s.memory h.0.0.1.1.1.0 in
    record { holdings = omega (arith, holdings.few); memory = omega (arith, memory.few) }

pub fits_sound : (version : Version) (s : GroupState) → (state_in version).Fits s → IsSound s
unfolding state_in lists_in owners objects calls is_consistent
fits_sound version s h =
    let sessions = session_list_facts s.sessions h.0.0.0.1.0 in
    let locks = lock_list_facts s.locks h.0.0.0.1.1.0 in
    let semaphores = semaphore_list_facts s.semaphores.rows h.0.0.0.1.1.1.0 in
    let holdings = holding_list_facts s.semaphores.holdings h.0.0.0.1.1.1.1 in
    let latches = latch_list_facts s.latches h.0.0.1.0.0 in
    let longs = long_list_facts s.longs h.0.0.1.0.1.0 in
    let refs = ref_list_facts version s.refs h.0.0.1.0.1.1.0 in
    let gone = gone_list_facts version s.gone h.0.0.1.0.1.1.1 in
    let waiters = waiter_list_facts s.waiters h.0.0.1.1.0 in
    let memory = memory_list_facts version s.memory h.0.0.1.1.1.0 in
    let maps = pair_list_facts version s.maps h.0.0.1.1.1.1 in
    let whole_locks = and_parts (are_whole s.locks) _ h.1 in
    let clients = and_parts (clients_differ s.sessions) _ whole_locks.1 in
    let callers = and_parts (calls_differ s.waiters) _ clients.1 in
    let balance = and_parts (are_balanced s.semaphores) _ callers.1 in
    let stand = and_parts (holdings_stand s.semaphores) _ balance.1 in
    record {
      fits = record {
        destroyed_group = h.0.0.0.0;
        sessions = sessions.each;
        locks = locks_are s.locks locks.each whole_locks.0;
        semaphores = semaphores.each;
        holdings = holdings.each;
        latches = latches.0.each;
        longs = longs.each;
        refs = refs.each;
        maps = maps.each;
        gone = gone.each;
        waiters = waiters.1;
        memory = memory.each;
        limits = record { sessions = sessions.few; locks = locks.few; semaphores = semaphores.few; latches = latches.0.few; counted = latches.1; longs = longs.few; refs = refs.few; maps = maps.few; gone = gone.few; waiters = waiters.0 };
      };
      ordered = record { sessions = sessions.rising; locks = locks.rising; semaphores = semaphores.rising; holdings = holdings.rising; latches = latches.0.rising; longs = longs.rising; refs = refs.rising; gone = gone.rising; maps = maps.rising; memory = memory.rising };
      balanced = balanced_are s.semaphores balance.0 stand.0;
      waiters_stand = waiters_are s.semaphores.rows s.waiters stand.1;
      one_session = sessions_are s.sessions clients.0;
      calls_differ = calls_are s.waiters callers.0;
    }

-- ---- bytes and back

third_fits : version_grammar.Fits versions.Third
unfolding version_grammar
third_fits = ((omega arith, refl), refl)

pub come_back : (s : GroupState) → IsSound s → HasCounts s → restored (spelled s) ≡ Ok s
unfolding restored spelled any_version
come_back s h counts = ap unversioned (whole_again IsByte any_version any_version_lawful (versions.Third, s) (third_fits, state_fits s h counts))

abbrev done : GroupState → Result GroupState ℕ
done s = Ok s

ok_same : (x y : GroupState) → done x ≡ done y → x ≡ y
ok_same x y e = cc

pub are_sound : (bytes : List ℕ) (s : GroupState) → AllByRecursion IsByte bytes → restored bytes ≡ Ok s → IsSound s × HasCounts s
unfolding restored any_version
are_sound bytes s good h = by (whole any_version bytes) refl h
  where
    by : (r : Result (Version × GroupState) ℕ) → whole any_version bytes ≡ r → unversioned r ≡ Ok s → IsSound s × HasCounts s
    by (Ok p) was k =
        let its = whole_takes IsByte any_version any_version_lawful bytes p good was in
        let same : p.1 ≡ s = ok_same p.1 s k in
        (subst IsSound same (fits_sound p.0 p.1 its.1.1), subst HasCounts same (fits_counts p.0 p.1 its.1.1))
    by (Err place) was k = absurd cc
