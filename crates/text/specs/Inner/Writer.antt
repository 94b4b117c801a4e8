-- What the writers say: the nodes that each word makes are put one after the other.
use Rattle.std.specs.Prelude.{◌≡◌, List, ◌++◌, ℕ, ◌≤◌, ◌<◌, length}
use Rattle.listing.specs.Node.{Listing}
use Rattle.words.specs.Words.{Token}
use Rattle.grammar.specs.Inner.Reader.{Cursor}
use Rattle.text.specs.Inner.Records.{WroteNodes}
use Rattle.text.specs.Inner.Pen.{tokens, nodes_at, after, run, written}
use Rattle.text.specs.declared.pen.Pen.{Pen}

-- a reader is after a word, and there were fewer parts and nodes than bytes up to there
pub record WordAt (at : Cursor) (p : Pen) : Type 0 where
  pub few : p.number < at.end
  pub parted : p.parts < at.end
  pub fits : at.end < 18446744073709551616

-- the word w, which ws follow, is written: the pen p went on to q, and its nodes are put
pub record WordWritten (old new : List ℕ) (p q : Pen) (w : Token) (ws : List Token) : Type 0 where
  pub goes : q ≡ after p w ws
  pub wrote : WroteNodes old new p.number (nodes_at p w ws)

-- the words up to the reader's place are written
pub record TextWrites (s old now : List ℕ) (at : Cursor) (p : Pen) : Type 0 where
  pub text : at.text ≡ s
  pub done : Listing
  pub count : length done ≡ p.number
  pub same : written s ≡ done ++ run p (tokens s at.end)
  pub wrote : WroteNodes old now 0 done
  pub few : p.number ≤ at.end
  pub parted : p.parts ≤ at.end

-- all words are written
pub record TextWritten (s old new : List ℕ) : Type 0 where
  pub wrote : WroteNodes old new 0 (written s)
