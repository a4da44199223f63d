-- An attempt makes an entry at most once, and none where it is refused; and one event writes at most one part.
use Rattle.std.specs.Prelude.{◌≡◌, ◌≤◌, ℕ, true, false, List, [], ◌∷◌, ◌++◌, Some, length, fold}
use Rattle.cp_log_rules.specs.Durable.{DurableState, with_part}
use Rattle.cp_parts.specs.declared.part.Part.{Part}
use Rattle.cp_member_rules.specs.Letters.{Request}
use Rattle.cp_member_rules.specs.Machines.{Machines, Setup}
use Rattle.cp_member_rules.specs.Members.{MemberState}
use Rattle.cp_member_rules.specs.Steps.{MemberEvent, member_step}
use Rattle.cp_member_laws.specs.Runs.{Happening, AttemptKey, request_in, is_taken, after_all, times, takes, makes, refuses}

module _ {V : Type 0} (ms : Machines V) (setup : Setup) where
  -- ---- what is stored

  -- One part at most is written, what is stored moves by it, and no event is a start.
  pub record StoresAtMostOne (me : ℕ) (member : MemberState) (event : MemberEvent) : Type 0 where
    pub one : length (member_step ms setup me member event).parts ≤ 1
    pub stored : (member_step ms setup me member event).state.stored
        ≡ fold (λ (s : DurableState) (part : Part). with_part part s) member.stored (member_step ms setup me member event).parts
    pub restart : (member_step ms setup me member event).state.stored.restart ≡ member.stored.restart

  abbrev pub EventsStoreOne : Type 0
  EventsStoreOne = (me : ℕ) (member : MemberState) (event : MemberEvent) → StoresAtMostOne me member event

  -- ---- attempts

  pub record IsLeft (me : ℕ) (member : MemberState) (event : MemberEvent) : Type 0 where
    pub stays : (member_step ms setup me member event).state ≡ member
    pub writes : (member_step ms setup me member event).parts ≡ []

  -- Over all starts of a member an attempt is taken at most once.
  abbrev pub TakenOnce : Type 0
  TakenOnce = (me : ℕ) (member : MemberState) (run : List Happening) (t : AttemptKey) → times ms setup me (takes ms setup me t) member run ≤ 1

  -- What is not taken leaves the member as it is, and writes nothing.
  abbrev pub OthersAreLeft : Type 0
  OthersAreLeft = (me : ℕ) (member : MemberState) (event : MemberEvent) (r : Request) → request_in me event ≡ Some r → is_taken r member ≡ false → IsLeft me member event

  -- Over all starts an attempt makes one entry at most.
  abbrev pub MadeOnce : Type 0
  MadeOnce = (me : ℕ) (member : MemberState) (run : List Happening) (t : AttemptKey) → times ms setup me (makes ms setup me t) member run ≤ 1

  -- An attempt that is refused somewhere in a run makes no entry in all of it, neither before nor then nor behind.
  abbrev pub RefusedNeverMakes : Type 0
  RefusedNeverMakes = (me : ℕ) (member : MemberState) (before : List Happening) (h : Happening) (behind : List Happening) (t : AttemptKey)
      → refuses ms setup me t (after_all ms setup me member before) h ≡ true → times ms setup me (makes ms setup me t) member (before ++ h ∷ behind) ≡ 0
