-- What has a spelling in a version has one in the newest.
use Rattle.std.proofs.Common.{ℕ, ◌≤◌, Bool, true, false, arith}
use Rattle.std.specs.Prelude.{if◌then◌else◌, ◌==◌}
use Rattle.cp_base.specs.declared.limits.TheConstants.{MOST_ENTRY, OLDER_MOST_ENTRY}
use Rattle.cp_message.proofs.Larger.{append_fits}
use Rattle.cp_message.specs.declared.request.Request.{Request}
use Rattle.cp_message.specs.declared.request.Reply.{Reply}
use Rattle.cp_message.specs.declared.body.Body.{Body}
use Rattle.cp_message.specs.declared.body.Body.TheVariants as bodies
use Rattle.cp_message.specs.declared.message.Message.{Message}
use Rattle.cp_message.specs.Requests.{request_within, reply_within}
use Rattle.cp_message.specs.Bodies.{kind_of, body_within}
use Rattle.cp_message.specs.Messages.{most_entry, headed, fields, message_grammar}

request_fits : (a b : ℕ) → a ≤ b → (x : Request) → (request_within a).Fits x → (request_within b).Fits x
unfolding request_within
request_fits a b le x fits =
    let h = fits.0 in
    ((h.0, (h.1.0, (h.1.1.0, (h.1.1.1.0, (h.1.1.1.1.0, (h.1.1.1.1.1.0, omega (arith, h.1.1.1.1.1.1))))))), fits.1)

reply_fits : (a b : ℕ) → a ≤ b → (x : Reply) → (reply_within a).Fits x → (reply_within b).Fits x
unfolding reply_within
reply_fits a b le x fits =
    let h = fits.0 in
    ((h.0, (h.1.0, (h.1.1.0, (h.1.1.1.0, omega (arith, h.1.1.1.1))))), fits.1)

body_fits : (a b : ℕ) → a ≤ b → (x : Body) → (body_within a (kind_of x)).Fits x → (body_within b (kind_of x)).Fits x
unfolding body_within
body_fits a b le bodies.Hello fits = fits
body_fits a b le (bodies.Welcome restart) fits = fits
body_fits a b le (bodies.PreVote request) fits = fits
body_fits a b le (bodies.PreVoteReply reply) fits = fits
body_fits a b le (bodies.Vote request) fits = fits
body_fits a b le (bodies.VoteReply reply) fits = fits
body_fits a b le (bodies.Append append) fits = (append_fits a b le append fits.0, fits.1)
body_fits a b le (bodies.AppendReply reply) fits = fits
body_fits a b le (bodies.Request request) fits = (request_fits a b le request fits.0, fits.1)
body_fits a b le (bodies.Reply reply) fits = (reply_fits a b le reply fits.0, fits.1)
body_fits a b le (bodies.Refuse reply) fits = (reply_fits a b le reply fits.0, fits.1)
body_fits a b le (bodies.StartGroup group list) fits = fits
body_fits a b le (bodies.Task group task) fits = fits
body_fits a b le (bodies.TaskReply group reply) fits = fits
body_fits a b le (bodies.Snapshot chunk) fits = fits
body_fits a b le (bodies.SnapshotReply reply) fits = fits
body_fits a b le (bodies.Confirm confirm) fits = fits
body_fits a b le (bodies.Confirmed reply) fits = fits

kinds_below : (older : Bool) → (if older then 16 else 18) ≤ 18
kinds_below true = omega arith
kinds_below false = omega arith

entries_below : (older : Bool) → (if older then OLDER_MOST_ENTRY else MOST_ENTRY) ≤ MOST_ENTRY
entries_below true = omega arith
entries_below false = omega arith

pub newest_fits : (version : ℕ) (x : Message) → (fields version).Fits x → message_grammar.Fits x
unfolding fields headed
newest_fits version x fits =
    let kind : kind_of x.body ≤ 18 = omega (arith, fits.0.0, kinds_below (version == 1)) in
    let parts = fits.1.0 in
    ((kind, fits.0.1), ((parts.0, (parts.1.0, body_fits (most_entry version) MOST_ENTRY (entries_below (version == 1)) x.body parts.1.1)), fits.1.1))
