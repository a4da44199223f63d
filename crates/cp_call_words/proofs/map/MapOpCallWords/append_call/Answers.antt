use Rattle.cp_call_words.proofs.CallTexts.{put_if_absent_written}
use Rattle.cp_call_words.proofs.map.MapOpCallWords.append_call.Goals as goal

pub returns-in_ok-append_pair-in-PutIfAbsent : goal.returns-in_ok-append_pair-in-PutIfAbsent
returns-in_ok-append_pair-in-PutIfAbsent c = put_if_absent_written _ _ _ _ _ c.in-PutIfAbsent.is c.in_ok-append_pair-in-PutIfAbsent.ensures
