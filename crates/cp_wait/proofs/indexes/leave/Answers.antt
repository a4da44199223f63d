use Rattle.cp_wait.specs.Arrivals.{is_of_thread}
use Rattle.cp_wait.specs.Indexes.{object_calls, thread_calls, session_calls, limited_calls, is_on, is_of_session, is_limited_at}
use Rattle.cp_wait.proofs.Arriving.{went, undone}
use Rattle.cp_wait.proofs.indexes.leave.Goals as goal

pub returns-clause-gone : goal.returns-clause-gone
returns-clause-gone c = λ ws differ only is. record {
  objects = went is_on (object_calls c.args.indexes.now.objects) (object_calls c.leave_object.new.shelf) ws c.args.waiter.now differ only c.leave_object.ensures is.objects;
  threads = went is_of_thread (thread_calls c.args.indexes.now.threads) (thread_calls c.leave_thread.new.threads) ws c.args.waiter.now differ only c.leave_thread.ensures is.threads;
  sessions = went is_of_session (session_calls c.args.indexes.now.sessions) (session_calls c.leave_session.new.sessions) ws c.args.waiter.now differ only c.leave_session.ensures is.sessions;
  limited = went is_limited_at (limited_calls c.args.indexes.now.limited) (limited_calls c.leave_limited.new.limited) ws c.args.waiter.now differ only c.leave_limited.ensures is.limited;
}

pub returns-clause-undone : goal.returns-clause-undone
returns-clause-undone c = λ ws differ fresh is. record {
  objects = undone is_on (object_calls c.args.indexes.now.objects) (object_calls c.leave_object.new.shelf) ws c.args.waiter.now differ fresh c.leave_object.ensures is.objects;
  threads = undone is_of_thread (thread_calls c.args.indexes.now.threads) (thread_calls c.leave_thread.new.threads) ws c.args.waiter.now differ fresh c.leave_thread.ensures is.threads;
  sessions = undone is_of_session (session_calls c.args.indexes.now.sessions) (session_calls c.leave_session.new.sessions) ws c.args.waiter.now differ fresh c.leave_session.ensures is.sessions;
  limited = undone is_limited_at (limited_calls c.args.indexes.now.limited) (limited_calls c.leave_limited.new.limited) ws c.args.waiter.now differ fresh c.leave_limited.ensures is.limited;
}
