-- What the search leaves of `Pen::write`: a word that makes no node.
use Rattle.text.proofs.Writing.{other_written}
use Rattle.text.proofs.pen.Pen.write.Goals as goal

pub returns-in_default : goal.returns-in_default
returns-in_default c =
    let other = c.in_default in
    other_written _ (record {
      access = other.not-Access;
      fence = other.not-Fence;
      loop = other.not-Loop;
      either = other.not-Either;
      close = other.not-Close;
    })
