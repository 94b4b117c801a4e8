-- A word is written: its one node is put, or it makes none.
use mathlib.Core.Path.{◌≡◌, refl, sym, subst}
use mathlib.Core.List.{List, []}
use Prim.Native.Nat.{ℕ}
use Rattle.listing.specs.Node.{Listing}
use Rattle.words.specs.Words.{Token}
use Rattle.text.specs.Inner.Records.{WroteNodes}
use Rattle.text.specs.Inner.Pen.{nodes_at, after}
use Rattle.text.specs.Inner.Writer.{WordWritten}
use Rattle.text.specs.declared.pen.Pen.{Pen}

module _ {old new : List ℕ} {p q : Pen} {w : Token} {ws : List Token} (goes : q ≡ after p w ws) where
  -- the nodes that w makes are L
  pub nodes_written : {L : Listing} → nodes_at p w ws ≡ L → WroteNodes old new p.number L → WordWritten old new p q w ws
  nodes_written e x = record { goes = goes; wrote = subst (WroteNodes old new p.number) (sym e) x }

-- A WORD THAT MAKES NO NODE
pub none_written : {old : List ℕ} {p q : Pen} {w : Token} {ws : List Token} → q ≡ after p w ws → nodes_at p w ws ≡ [] → WordWritten old old p q w ws
none_written goes e = nodes_written goes e (record { kept = refl; bytes = λ _ _. record { bytes = refl } })
