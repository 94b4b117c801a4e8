-- Going down by the least pairs: what each step finds and writes.
use Rattle.std.specs.Prelude.{◌≡◌, List, [], ◌∷◌, ℕ, suc, ◌+◌, ◌*◌, ◌≤◌, ◌<◌, length, get_or, take, drop, set}
use Rattle.rows.specs.Inner.Rows.{Has}
use Rattle.rows.specs.Inner.Least.{Least}
use Rattle.chains.specs.Inner.Far.{unreached}
use Rattle.chains.specs.Inner.Levels.{AtDistance, Into, Hits}

-- x hops to c, and c has a pair into the one row of s
abbrev pub Mid : List ℕ → List ℕ → List ℕ → ℕ → ℕ → Type 0
Mid m w s x c = Has m x c × Into w s c

-- c has a pair to y, a node of the one row of s
abbrev pub End : List ℕ → List ℕ → ℕ → ℕ → Type 0
End w s c y = Has w c y × Has s 0 y

-- the same by distance
abbrev pub MidAt : ℕ → List ℕ → List ℕ → List ℕ → ℕ → ℕ → ℕ → Type 0
MidAt n m w d r x c = Has m x c × Hits n w d r c

abbrev pub EndAt : List ℕ → List ℕ → ℕ → ℕ → ℕ → Type 0
EndAt w d r c y = Has w c y × AtDistance d r y

-- k pairs from x down to a goal: each is the least that ends at the next distance
pub data Steep (n : ℕ) (m w d : List ℕ) : ℕ → ℕ → List ℕ → Type 0 where
  stop : {x : ℕ} → get_or d x 0 ≡ 0 → Steep n m w d 0 x []
  down : {r x c y : ℕ} {l : List ℕ} → c < n → Least (MidAt n m w d r x) 0 n c → y < n → Least (EndAt w d r c) 0 n y
      → Steep n m w d r y l → Steep n m w d (suc r) x (c ∷ y ∷ l)

-- every node that has a distance but 0 hops to a pair that ends at the next
abbrev pub Slope : ℕ → List ℕ → List ℕ → List ℕ → Type 0
Slope n m w d = (x r : ℕ) → x < n → get_or d x 0 ≡ suc r → suc r < unreached → (c : ℕ) × (c < n) × MidAt n m w d r x c

-- what a descent of k pairs from x into the buffer o stands on
pub record Downhill (n : ℕ) (m w d o : List ℕ) (x k : ℕ) : Type 0 where
  pub few : n ≤ 128
  pub low : x < n
  pub at : get_or d x 0 ≡ k
  pub room : k < n
  pub fits : 2 * k ≤ length o
  pub slope : Slope n m w d

-- a pair is written
abbrev pub Wrote : List ℕ → List ℕ → ℕ → ℕ → ℕ → Type 0
Wrote o p i c y = p ≡ set (set o i c) (i + 1) y

-- k pairs are written: o before, p after
pub record Descent (n : ℕ) (m w d o p : List ℕ) (x k : ℕ) : Type 0 where
  pub steep : Steep n m w d k x (take (2 * k) p)
  pub beyond : drop (2 * k) p ≡ drop (2 * k) o
  pub long : length p ≡ length o
