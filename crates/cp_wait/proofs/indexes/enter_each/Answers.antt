use Rattle.std.proofs.Common.{inl}
use Rattle.cp_wait.specs.Arrivals.{is_of_thread}
use Rattle.cp_wait.specs.Indexes.{object_calls, thread_calls, session_calls, limited_calls, is_on, is_of_session, is_limited_at}
use Rattle.cp_wait.proofs.Arriving.{came, partly, not_yet}
use Rattle.cp_wait.proofs.indexes.enter_each.Goals as goal

pub returns-in-Err-enter_thread-clause-part : goal.returns-in-Err-enter_thread-clause-part
returns-in-Err-enter_thread-clause-part c = λ ws fresh is. record {
  objects = partly is_on (object_calls c.args.indexes.now.objects) (object_calls c.enter_object.new.shelf) ws c.args.waiter.now fresh c.in-Ok.ensures.ok is.objects;
  threads = not_yet is_of_thread (thread_calls c.args.indexes.now.threads) (thread_calls c.enter_thread.new.threads) ws c.args.waiter.now c.in-Err-enter_thread.ensures.err is.threads;
  sessions = inl is.sessions;
  limited = inl is.limited;
}

pub returns-in-Err-enter_session-clause-part : goal.returns-in-Err-enter_session-clause-part
returns-in-Err-enter_session-clause-part c = λ ws fresh is. record {
  objects = partly is_on (object_calls c.args.indexes.now.objects) (object_calls c.enter_object.new.shelf) ws c.args.waiter.now fresh c.in-Ok.ensures.ok is.objects;
  threads = partly is_of_thread (thread_calls c.args.indexes.now.threads) (thread_calls c.enter_thread.new.threads) ws c.args.waiter.now fresh c.in-Ok-enter_thread.ensures.ok is.threads;
  sessions = not_yet is_of_session (session_calls c.args.indexes.now.sessions) (session_calls c.enter_session.new.sessions) ws c.args.waiter.now c.in-Err-enter_session.ensures.err is.sessions;
  limited = inl is.limited;
}

pub returns-in-Err-enter_limited-clause-part : goal.returns-in-Err-enter_limited-clause-part
returns-in-Err-enter_limited-clause-part c = λ ws fresh is. record {
  objects = partly is_on (object_calls c.args.indexes.now.objects) (object_calls c.enter_object.new.shelf) ws c.args.waiter.now fresh c.in-Ok.ensures.ok is.objects;
  threads = partly is_of_thread (thread_calls c.args.indexes.now.threads) (thread_calls c.enter_thread.new.threads) ws c.args.waiter.now fresh c.in-Ok-enter_thread.ensures.ok is.threads;
  sessions = partly is_of_session (session_calls c.args.indexes.now.sessions) (session_calls c.enter_session.new.sessions) ws c.args.waiter.now fresh c.in-Ok-enter_session.ensures.ok is.sessions;
  limited = not_yet is_limited_at (limited_calls c.args.indexes.now.limited) (limited_calls c.enter_limited.new.limited) ws c.args.waiter.now c.in-Err-enter_limited.ensures.err is.limited;
}

pub returns-clause-ok : goal.returns-clause-ok
returns-clause-ok c = λ ws fresh is. record {
  objects = came is_on (object_calls c.args.indexes.now.objects) (object_calls c.enter_object.new.shelf) ws c.args.waiter.now fresh c.in-Ok.ensures.ok is.objects;
  threads = came is_of_thread (thread_calls c.args.indexes.now.threads) (thread_calls c.enter_thread.new.threads) ws c.args.waiter.now fresh c.in-Ok-enter_thread.ensures.ok is.threads;
  sessions = came is_of_session (session_calls c.args.indexes.now.sessions) (session_calls c.enter_session.new.sessions) ws c.args.waiter.now fresh c.in-Ok-enter_session.ensures.ok is.sessions;
  limited = came is_limited_at (limited_calls c.args.indexes.now.limited) (limited_calls c.enter_limited.new.limited) ws c.args.waiter.now fresh c.in-Ok-enter_limited.ensures.ok is.limited;
}
