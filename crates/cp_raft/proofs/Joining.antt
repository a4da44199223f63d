-- What a step promises, each part by itself, as the records that its contract names.
use Rattle.std.proofs.Common.{◌≡◌, [], List, Option, Some, None, Ok, Err, IfOk, IfErr, OnOk, OnErr, Result}
use Rattle.cp_disk.specs.declared.disk.Disk.{Ghosts}
use Rattle.cp_disk.specs.Images.{Only}
use Rattle.cp_log.specs.declared.store.Store.{Store}
use Rattle.cp_log.specs.Stores.{disk_of, held_by}
use Rattle.cp_parts.specs.declared.down.Down.{Down}
use Rattle.cp_rules.specs.declared.outcome.Outcome.{Outcome}
use Rattle.cp_rules.specs.Local.{Event}
use Rattle.cp_rules.specs.Persistent.{Part}
use Rattle.cp_raft.specs.declared.out.RaftOut.{RaftOut}
use Rattle.cp_raft.specs.declared.raft.Raft.{Raft}
use Rattle.cp_raft.specs.Downs.{StepCause}
use Rattle.cp_raft.specs.Outs.{IsTold}
use Rattle.cp_raft.specs.Rafts.{MayGoOn, seat_of, state_of}
use Rattle.cp_raft.specs.Results.{Halts, Steps, step_of}
use Rattle.cp_raft.specs.Writing.{after_step}

-- a step that was done
pub steps_by : {D : Type 0} {disks : Ghosts D} (raft : Raft) (store : Store D disks) (event : Event) (after : Raft) (left : Store D disks) (result : Result Outcome Down) (out : RaftOut)
    → IfOk result (λ outcome. outcome ≡ (step_of raft store event).outcome)
    → OnOk result (state_of after ≡ (step_of raft store event).state)
    → OnOk result (held_by left ≡ after_step (seat_of raft) (step_of raft store event).part (held_by store))
    → OnOk result (IsTold (seat_of raft) (state_of raft) event (step_of raft store event) out)
    → ((x : Part) → (step_of raft store event).part ≡ Some x → disks.Told → OnOk result (Only (disks.seen (disk_of left)) (disks.may_leave (disk_of left))))
    → OnOk result (MayGoOn (held_by left) (seat_of after) (state_of after))
    → IfOk result (λ outcome. Steps raft store event after left outcome out)
steps_by raft store event after left (Ok outcome) out did state held told durable stays = record { did = did; state = state; held = held; told = told; durable = durable; stays = stays }
steps_by raft store event after left (Err why) out did state held told durable stays = tt

-- a member that is down
pub halts_by : {D : Type 0} {disks : Ghosts D} (store left : Store D disks) (result : Result Outcome Down) (out : RaftOut)
    → OnErr result ((out.messages.items ≡ []) × ((out.looks.items ≡ []) × (out.lost.items ≡ [])))
    → OnErr result (held_by left ≡ held_by store)
    → IfErr result (StepCause (disks.faults (disk_of store)) (disks.faults (disk_of left)))
    → IfErr result (λ why. Halts store left why out)
halts_by store left (Ok outcome) out silent held cause = tt
halts_by store left (Err why) out silent held cause = record { silent = record { messages = silent.0; looks = silent.1.0; lost = silent.1.1 }; held = held; cause = cause }
