-- A request makes nothing, or the entry that it asks for.
use Rattle.std.proofs.Common.{◌≡◌, ℕ, suc, ◌⊎◌, inl, inr, Bool, true, false, List, [], ◌∷◌, length, Some, None, Option, Ok, refl, sym, ap, subst, if◌then◌else◌}
use Rattle.std.specs.Prelude.{◌==◌, not, nat_le}
use Rattle.std.specs.Option.{option_map}
use Rattle.cp_answers.specs.declared.answer.Answer.TheVariants as answer
use Rattle.cp_answers.specs.declared.refusal.Refusal.{Refusal}
use Rattle.cp_grammar.specs.Grammar.{whole}
use Rattle.cp_log_rules.specs.Durable.{has_ended}
use Rattle.cp_log_rules.specs.Persistent.{PersistentState, last}
use Rattle.cp_ops.specs.declared.op.Op.{Op}
use Rattle.cp_ops.specs.declared.op.Op.TheVariants as op
use Rattle.cp_ops.specs.Ops.{op_grammar}
use Rattle.cp_rules.specs.declared.outcome.Outcome.TheVariants as outcome
use Rattle.cp_rules.specs.Changes.{refuses_change, changes}
use Rattle.cp_rules.specs.Confirming.{settles}
use Rattle.cp_rules.specs.Limits.{most_looks}
use Rattle.cp_rules.specs.Local as raft
use Rattle.cp_rules.specs.Local.{LocalStep, is_leader}
use Rattle.cp_rules.specs.Parts.{part_of}
use Rattle.cp_rules.specs.Persistent.{Part, AppendPart, ballot}
use Rattle.cp_rules.specs.Requests.{refuses_entry, unless_refused, proposes}
use Rattle.cp_rules.specs.Steps.{step, rule}
use Rattle.cp_rules.specs.Volatile.{VolatileState}
use Rattle.cp_group_rules.specs.Events as groups
use Rattle.cp_group_rules.specs.Events.{Settings, asked as asked_event, by_entry, change_of, goes_by_round}
use Rattle.cp_group_rules.specs.Groups.{VolatileGroup}
use Rattle.cp_group_rules.specs.Machines.{Machine}
use Rattle.cp_group_rules.specs.Steps.{GroupStep, group_step}
use Rattle.cp_member_rules.specs.Acting.{by_entries, did_by, done_by}
use Rattle.cp_member_rules.specs.Letters.{Request, Talk, Hello, Welcome, Asks, Reply, Refuse, StartGroup, Told, Did, Raft, group_id, is_client, reply}
use Rattle.cp_member_rules.specs.Machines.{Machines, Setup, is_metadata}
use Rattle.cp_member_rules.specs.Members.{MemberState, group_at, last_attempt, stored_at}
use Rattle.cp_member_rules.specs.MemberSteps.{MemberStep, says, unmoved, writes_if}
use Rattle.cp_member_rules.specs.Requesting.{attempted, in_group, if_read, if_started}
use Rattle.cp_member_rules.specs.Steps.{MemberEvent, Passes, Gets, gets, member_step}
use Rattle.cp_member_laws.specs.Asked.{asked_entry, IsProposed, MakesNothing, MakesIts}
use Rattle.cp_member_laws.specs.Runs.{asked, request_in}

-- ---- a step of Raft

-- nothing, or one entry with these bytes
abbrev Puts : PersistentState → List ℕ → LocalStep → Type 0
Puts p bytes s = ((s.part ≡ None) × (IsProposed s.outcome → ⊥))
    ⊎ ((s.part ≡ Some (AppendPart (ballot p) (last p) (record { term = p.term; bytes = bytes } ∷ []))) × (s.outcome ≡ outcome.Proposed (suc (last p))))

unless : (p : PersistentState) (bytes : List ℕ) (o : Option Refusal) (v : VolatileState) (s : LocalStep) → Puts p bytes s → Puts p bytes (unless_refused o v s)
unless p bytes None v s h = h
unless p bytes (Some r) v s h = inl (refl, λ h. h)

puts_if : (p : PersistentState) (bytes : List ℕ) (b : Bool) (s t : LocalStep) → Puts p bytes s → Puts p bytes t → Puts p bytes (if b then s else t)
puts_if p bytes true s t h k = h
puts_if p bytes false s t h k = k

settled : (me : ℕ) (p : PersistentState) (v : VolatileState) (bytes : List ℕ) (s : LocalStep) → Puts p bytes s → Puts p bytes (settles me p v s)
settled me p v bytes s h = puts_if p bytes (is_leader s.state.role) _ _ h h

module _ (me : ℕ) (p : PersistentState) (v : VolatileState) (r : Request) where
  puts_entry : (bytes : List ℕ) → Puts p bytes (step me p v (raft.Propose bytes))
  puts_entry bytes = settled me p v bytes (rule me p v (raft.Propose bytes)) (unless p bytes (refuses_entry p v) v (proposes me p v bytes) (inr (refl, refl)))

  puts_read : (bytes read : List ℕ) → Puts p bytes (step me p v (raft.Read r.call r.attempt read))
  puts_read bytes read = settled me p v bytes (rule me p v (raft.Read r.call r.attempt read))
      (puts_if p bytes (not (is_leader v.role)) _ _ (inl (refl, λ h. h)) (puts_if p bytes (nat_le most_looks (length v.reads.looks)) _ _ (inl (refl, λ h. h)) (inl (refl, λ h. h))))

  puts_by_entry : (o : Op) → Puts p (asked_entry r o p) (step me p v (by_entry r.call o))
  puts_by_entry (op.Change o) =
      let bytes = asked_entry r (op.Change o) p in
      let c = change_of o in
      settled me p v bytes (rule me p v (raft.ChangeMembers c 0 (Some r.call)))
      (unless p bytes (refuses_entry p v) v (unless_refused (refuses_change p v c) v (changes me p v c 0 (Some r.call)))
      (unless p bytes (refuses_change p v c) v (changes me p v c 0 (Some r.call)) (inr (refl, refl))))
  puts_by_entry (op.Long a b) = puts_entry _
  puts_by_entry (op.Ref a b) = puts_entry _
  puts_by_entry (op.Lock a b) = puts_entry _
  puts_by_entry (op.Sem a b) = puts_entry _
  puts_by_entry (op.Jsem a b) = puts_entry _
  puts_by_entry (op.Latch a b) = puts_entry _
  puts_by_entry (op.Session a) = puts_entry _
  puts_by_entry (op.Destroy a b) = puts_entry _
  puts_by_entry (op.Group a) = puts_entry _
  puts_by_entry (op.Member a) = puts_entry _
  puts_by_entry (op.Map a b) = puts_entry _

  puts : (reads : Bool) (o : Op) → Puts p (asked_entry r o p) (step me p v (asked_event reads r.call r.attempt o))
  puts true o = puts_read (asked_entry r o p) (op_grammar.spelling o)
  puts false o = puts_by_entry o

-- ---- a step of the group, and of the member

abbrev PutsDid : Request → Op → PersistentState → GroupStep → Type 0
PutsDid r o p did = ((did.part ≡ None) × (IsProposed did.outcome → ⊥))
    ⊎ ((did.part ≡ Some (AppendPart (ballot p) (last p) (record { term = p.term; bytes = asked_entry r o p } ∷ []))) × (did.outcome ≡ outcome.Proposed (suc (last p))))

abbrev Makes : Request → Op → PersistentState → MemberStep → Type 0
Makes r o p e = MakesNothing e ⊎ MakesIts r o p e

module _ {V : Type 0} (ms : Machines V) (setup : Setup) (me : ℕ) where
  puts_group : {W : Type 0} (m : Machine W) (settings : Settings) (p : PersistentState) (held : VolatileGroup) (r : Request) (o : Op) → PutsDid r o p (group_step m settings me p held (groups.Asks r.from r.call r.attempt o))
  puts_group m settings p held r o = puts me p held.raft r (goes_by_round settings held.raft o) o

  puts_by : (p : PersistentState) (held : VolatileGroup) (r : Request) (o : Op) → PutsDid r o p (did_by ms setup me r.group p held (groups.Asks r.from r.call r.attempt o))
  puts_by p held r o = by (is_metadata r.group) where
    by : (b : Bool) → PutsDid r o p (if b then group_step ms.lists (by_entries setup.settings) me p held (groups.Asks r.from r.call r.attempt o) else group_step ms.objects setup.settings me p held (groups.Asks r.from r.call r.attempt o))
    by true = puts_group ms.lists (by_entries setup.settings) p held r o
    by false = puts_group ms.objects setup.settings p held r o

  made_seat : (r : Request) (o : Op) (x : Option VolatileGroup) (member : MemberState) → Makes r o (stored_at member r.group) (in_group ms setup me r o x (unmoved member))
  made_seat r o None member = inl (record { parts = refl; outcome = λ h. h })
  made_seat r o (Some held) member = by (puts_by (stored_at member r.group) held r o) where
    did : GroupStep
    did = did_by ms setup me r.group (stored_at member r.group) held (groups.Asks r.from r.call r.attempt o)

    parts : (x : Option Part) → did.part ≡ x → (done_by ms setup me r.group held did (unmoved member)).parts ≡ (writes_if (option_map (part_of (group_id r.group)) x) (unmoved member)).parts
    parts x e = ap (λ (y : Option Part). (writes_if (option_map (part_of (group_id r.group)) y) (unmoved member)).parts) e

    by : PutsDid r o (stored_at member r.group) did → Makes r o (stored_at member r.group) (done_by ms setup me r.group held did (unmoved member))
    by (inl h) = inl (record { parts = parts None h.0; outcome = h.1 })
    by (inr h) = inr (record { parts = parts (Some (AppendPart (ballot (stored_at member r.group)) (last (stored_at member r.group)) (record { term = (stored_at member r.group).term; bytes = asked_entry r o (stored_at member r.group) } ∷ []))) h.0; outcome = h.1 })

  made_if : (b : Bool) (r : Request) (o : Op) (p : PersistentState) (x y : MemberStep) → Makes r o p x → Makes r o p y → Makes r o p (if b then x else y)
  made_if true r o p x y h k = h
  made_if false r o p x y h k = k

  idle : (r : Request) (o : Op) (p : PersistentState) (member : MemberState) → Makes r o p (unmoved member)
  idle r o p member = inl (record { parts = refl; outcome = λ h. h })

  told : (r : Request) (o : Op) (p : PersistentState) (member : MemberState) (to : ℕ) (talk : Talk) → Makes r o p (says me to talk (unmoved member))
  told r o p member to talk = inl (record { parts = refl; outcome = λ h. h })

  made_start : (r : Request) (o : Op) (member : MemberState) → Makes r o (stored_at member r.group) (if_started ms setup me r o (unmoved member))
  made_start r o member =
      let p = stored_at member r.group in
      let next = attempted r member in
      made_if (r.restart == member.stored.restart) r o p _ _
      (made_if (nat_le r.attempt (last_attempt member r.from r.call.thread.0)) r o p _ _ (idle r o p member)
      (made_if (has_ended next.stored r.group) r o p _ _ (told r o p next r.from (reply r.group r.call r.attempt (answer.GroupDestroyed (group_id r.group))))
      (made_seat r o (group_at next r.group) next)))
      (told r o p member r.from (Welcome member.stored.restart))

  -- ---- the event of a request

  comes_if : (b : Bool) (x : Request) (d e : MemberStep) (r : Request) (P : MemberStep → Type 0) → (if b then Some x else None) ≡ Some r → (x ≡ r → P e) → P (if b then e else d)
  comes_if true x d e r P is h = h (same x r is)
    where
      same : (x r : Request) → Some x ≡ Some r → x ≡ r
      same x r is = cc
  comes_if false x d e r P is h = absurd cc

  got : (from : ℕ) (talk : Talk) (member : MemberState) (r : Request) (o : Op) → asked from talk ≡ Some r → whole op_grammar r.op ≡ Ok o
      → Makes r o (stored_at member r.group) (gets ms setup me from talk (unmoved member))
  got from (Asks call attempt restart group bytes) member r o is reads =
      let x : Request = record { from = from; call = call; attempt = attempt; restart = restart; group = group; op = bytes } in
      comes_if (is_client from) x (unmoved member) (if_read ms setup me x (whole op_grammar x.op) (unmoved member)) r (λ e. Makes r o (stored_at member r.group) e) is
      (λ same. subst (λ y. Makes r o (stored_at member r.group) (if_read ms setup me y (whole op_grammar y.op) (unmoved member))) (sym same)
      (subst (λ z. Makes r o (stored_at member r.group) (if_read ms setup me r z (unmoved member))) (sym reads) (made_start r o member)))
  got from Hello member r o is reads = absurd cc
  got from (Welcome restart) member r o is reads = absurd cc
  got from (Reply thread attempt group number a) member r o is reads = absurd cc
  got from (Refuse thread attempt group number x) member r o is reads = absurd cc
  got from (StartGroup group first) member r o is reads = absurd cc
  got from (Told group t) member r o is reads = absurd cc
  got from (Did group reply) member r o is reads = absurd cc
  got from (Raft group body) member r o is reads = absurd cc

  pub made : (member : MemberState) (event : MemberEvent) (r : Request) (o : Op) → request_in me event ≡ Some r → whole op_grammar r.op ≡ Ok o
      → Makes r o (stored_at member r.group) (member_step ms setup me member event)
  made member (Passes millis) r o is reads = absurd cc
  made member (Gets x) r o is reads = by (x.to == me) is where
    by : (b : Bool) → (if b then asked x.from x.talk else None) ≡ Some r → Makes r o (stored_at member r.group) (if b then gets ms setup me x.from x.talk (unmoved member) else unmoved member)
    by true is = got x.from x.talk member r o is reads
    by false is = absurd cc
