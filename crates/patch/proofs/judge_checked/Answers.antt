-- `patch::judge_checked` meets its contract.
use Rattle.patch.proofs.JudgeRules.{told_of}
use Rattle.patch.proofs.PutBack.{put_whole, put_read}
use Rattle.patch.proofs.judge_checked.Goals as goal

pub new-requires : goal.new-requires
new-requires c = put_whole _ _ c.requires.0 _ _ _ c.put_patched-length.ensures.0 c.put_patched-length.ensures.1

pub returns : goal.returns
returns c =
    told_of (put_read _ _ c.requires.0 _ _ _ c.put_patched-length.ensures.0 c.put_patched-length.ensures.1)
    (rw c.new.ensures at c.decide.ensures)
