-- What is inside two walks that correspond: the same kinds, but for plain nodes, and a fence more where the old walk is shut.
use mathlib.Core.Path.{◌≡◌, refl, sym, ap, ◌∙◌, subst}
use mathlib.Core.Logic.{◌↔◌, ◌⊎◌, inl, inr, ⊎_map}
use mathlib.Core.List.{List, [], ◌∷◌}
use Prim.Native.Nat.{ℕ}
use Rattle.listing.specs.Kinds.{PLAIN, FENCE}
use Rattle.listing.specs.Node.{Listing}
use Rattle.order.specs.Rows.{All, In}
use Rattle.order.specs.Walks.{kind_at}
use Rattle.order.proofs.Lists.{all_in, in_all}

-- a node of kind k is among xs
abbrev pub KindIn : Listing → List ℕ → ℕ → Type 0
KindIn L xs k = (c : ℕ) × In c xs × (kind_at L c ≡ k)

-- unless k is plain
abbrev pub KindKept : Listing → List ℕ → ℕ → Type 0
KindKept L xs k = (k ≡ PLAIN) ⊎ KindIn L xs k

-- xs is inside the old walk, which is open if `Open`, and ys is inside the new one
pub record Inside (L M : Listing) (xs ys : List ℕ) (Open : Type 0) : Type 0 where
  -- every kind inside the old walk is inside the new one, unless plain
  pub there : (c : ℕ) → In c xs → KindKept M ys (kind_at L c)
  -- and conversely, but for fences inside the new one that shut the old one
  pub back : (d : ℕ) → In d ys → KindKept L xs (kind_at M d) ⊎ ((kind_at M d ≡ FENCE) × (Open → ⊥))
  -- with no fence inside the new walk, the old one is open
  pub opens : (KindIn M ys FENCE → ⊥) → Open

kept_more : (L : Listing) (x : ℕ) (xs : List ℕ) (k : ℕ) → KindKept L xs k → KindKept L (x ∷ xs) k
kept_more L x xs k = ⊎_map (λ e. e) (λ i. (i.0, inr i.1, i.2))

-- ── To show it: two walks with nothing inside, then node by node ──────────────
pub inside_none : (L M : Listing) (Open : Type 0) → Open → Inside L M [] [] Open
inside_none L M Open o = record { there = λ c i. absurd i; back = λ d i. absurd i; opens = λ n. o }

module _ {L M : Listing} {xs ys : List ℕ} {Open : Type 0} (f : Inside L M xs ys Open) where
  -- a node that stays
  pub inside_kept : (c d : ℕ) → kind_at M d ≡ kind_at L c → Inside L M (c ∷ xs) (d ∷ ys) Open
  inside_kept c d e = record { there = there; back = back; opens = λ n. f.opens (λ i. n (i.0, inr i.1, i.2)) }
    where
      there : (x : ℕ) → In x (c ∷ xs) → KindKept M (d ∷ ys) (kind_at L x)
      there x (inl p) = inr (d, inl refl, e ∙ ap (kind_at L) (sym p))
      there x (inr i) = kept_more M d ys (kind_at L x) (f.there x i)

      back : (y : ℕ) → In y (d ∷ ys) → KindKept L (c ∷ xs) (kind_at M y) ⊎ ((kind_at M y ≡ FENCE) × (Open → ⊥))
      back y (inl p) = inl (inr (c, inl refl, sym e ∙ ap (kind_at M) (sym p)))
      back y (inr i) = ⊎_map (kept_more L c xs (kind_at M y)) (λ h. h) (f.back y i)

  -- a fence more, which shuts the walk
  pub inside_fence : (d : ℕ) → kind_at M d ≡ FENCE → (Open' : Type 0) → (Open' → ⊥) → Inside L M xs (d ∷ ys) Open'
  inside_fence d e Open' shut = record { there = λ x i. kept_more M d ys (kind_at L x) (f.there x i); back = back; opens = λ n. absurd (n (d, inl refl, e)) }
    where
      back : (y : ℕ) → In y (d ∷ ys) → KindKept L xs (kind_at M y) ⊎ ((kind_at M y ≡ FENCE) × (Open' → ⊥))
      back y (inl p) = inr (ap (kind_at M) p ∙ e, shut)
      back y (inr i) = ⊎_map (λ h. h) (λ h. (h.0, shut)) (f.back y i)

  -- other words for being open
  pub inside_open : (Open' : Type 0) → Open ↔ Open' → Inside L M xs ys Open'
  inside_open Open' e = record {
    there = f.there;
    back = λ y i. ⊎_map (λ h. h) (λ h. (h.0, λ o. h.1 (e.1 o))) (f.back y i);
    opens = λ n. e.0 (f.opens n);
  }

  -- ── To use it: a property of kinds that plain nodes lack ────────────────────
  module _ (P : ℕ → Type 0) (plain : P PLAIN → ⊥) where
    kept_has : (N : Listing) (zs : List ℕ) (k : ℕ) → KindKept N zs k → P k → (z : ℕ) × In z zs × P (kind_at N z)
    kept_has N zs k (inl e) p = absurd (plain (subst P e p))
    kept_has N zs k (inr i) p = (i.0, i.1, subst P (sym i.2) p)

    -- fences lack it too: some node inside has it
    pub inside_some : (P FENCE → ⊥) → ((c : ℕ) × In c xs × P (kind_at L c)) ↔ ((d : ℕ) × In d ys × P (kind_at M d))
    inside_some fence = (λ h. kept_has M ys (kind_at L h.0) (f.there h.0 h.1) h.2, λ h. back h.0 h.2 (f.back h.0 h.1))
      where
        back : (d : ℕ) → P (kind_at M d) → KindKept L xs (kind_at M d) ⊎ ((kind_at M d ≡ FENCE) × (Open → ⊥)) → (c : ℕ) × In c xs × P (kind_at L c)
        back d p (inl k) = kept_has L xs (kind_at M d) k p
        back d p (inr e) = absurd (fence (subst P e.0 p))

    -- fences have it: no node inside has it, and the old walk is open
    pub inside_no : P FENCE → (All (λ c. P (kind_at L c) → ⊥) xs × Open) ↔ All (λ d. P (kind_at M d) → ⊥) ys
    inside_no fence = (
      λ h. in_all (λ d. P (kind_at M d) → ⊥) ys (λ d i p. there h d p (f.back d i)),
      λ h. (
        in_all (λ c. P (kind_at L c) → ⊥) xs (λ c i p. none h (kept_has M ys (kind_at L c) (f.there c i) p)),
        f.opens (λ d. none h (d.0, d.1, subst P (sym d.2) fence)),
      ),
    )
      where
        there : All (λ c. P (kind_at L c) → ⊥) xs × Open → (d : ℕ) → P (kind_at M d) → KindKept L xs (kind_at M d) ⊎ ((kind_at M d ≡ FENCE) × (Open → ⊥)) → ⊥
        there h d p (inl k) = let c = kept_has L xs (kind_at M d) k p in all_in (λ c. P (kind_at L c) → ⊥) xs h.0 c.0 c.1 c.2
        there h d p (inr e) = e.1 h.1

        none : All (λ d. P (kind_at M d) → ⊥) ys → (d : ℕ) × In d ys × P (kind_at M d) → ⊥
        none h d = all_in (λ d. P (kind_at M d) → ⊥) ys h d.0 d.1 d.2
