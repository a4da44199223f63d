use Rattle.cp_call_words.specs.Shown.{named, with_group}
use Rattle.cp_call_words.proofs.CallTexts.{destroy_written}
use Rattle.cp_call_words.proofs.writing.append_destroy.Goals as goal

pub returns : goal.returns
returns c = destroy_written c.args.out.now.items c.append_word.new.out.items c.args.kind (with_group (named c.args.short) c.args.object.now) (cc (c.in_ok-append_text.ensures.ok, c.in_ok-push.ensures.items, c.in_ok-append_object.ensures, c.in_ok-append_word.ensures))
