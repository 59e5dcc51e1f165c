-- The least key is found node by node.
use Rattle.std.proofs.Common.{◌≡◌, ℕ, ◌+◌, ◌*◌, ◌<◌, ◌≤◌, ◌⊎◌, List, Some, None, Option, sym, refl, ap, ◌∙◌, subst, inl, inr, ⊎_elim, arith}
use Rattle.std.proofs.lemmas.Bool.{cases_eq}
use Rattle.segments.specs.Distances.{LeastOf, lesser_of, table_of}
use Rattle.segments.specs.declared.near.Near.{Near}
use Rattle.segments.specs.Spreads.{Keyed, rank}
use Rattle.segments.proofs.LeastNumbers.{least_same, least_lesser}
use Rattle.segments.proofs.OptionValues.{some_same, none_some}

-- the least of the keys of the nodes below i
abbrev pub KeyedTo : ℕ → List (Option ℕ) → ℕ → ℕ → ℕ → ℕ → Type 0
KeyedTo n xs v bar i key = (r : Keyed n xs v bar key) × (r.node < i)

module _ (n : ℕ) (xs : List (Option ℕ)) (v bar i : ℕ) where
  keys_grow : (w : ℕ) → KeyedTo n xs v bar i w → KeyedTo n xs v bar (i + 1) w
  keys_grow w r = (r.0, omega (arith, r.1))

  keys_last : (w : ℕ) (r : KeyedTo n xs v bar (i + 1) w) → KeyedTo n xs v bar i w ⊎ (r.0.node ≡ i)
  keys_last w r = ⊎_elim (λ (e : r.0.node ≡ i). inr e) (λ (ne : r.0.node ≡ i → ⊥). inl (r.0, omega (arith, r.1, ne))) (cases_eq r.0.node i)

  -- the key of node i, if it has one
  own_key : (w f : ℕ) (r : Keyed n xs v bar w) → r.node ≡ i → table_of n xs i v ≡ Some f → w ≡ f * 64 + i
  own_key w f r e at =
      let g : r.far ≡ f = some_same (table_of n xs i v) r.far f (subst (λ m. table_of n xs m v ≡ Some r.far) e r.at) at in
      sym r.is ∙ ap (λ m. m * 64 + r.node) g ∙ ap (λ m. f * 64 + m) e

  pub keys_none : (o : Option ℕ) → ((w : ℕ) (r : Keyed n xs v bar w) → r.node ≡ i → ⊥) → LeastOf (KeyedTo n xs v bar i) o → LeastOf (KeyedTo n xs v bar (i + 1)) o
  keys_none o ne = least_same _ _ o keys_grow (λ w r. ⊎_elim (λ a. a) (λ e. absurd (ne w r.0 e)) (keys_last w r))

  pub keys_unknown : (o : Option ℕ) → table_of n xs i v ≡ None → LeastOf (KeyedTo n xs v bar i) o → LeastOf (KeyedTo n xs v bar (i + 1)) o
  keys_unknown o e = keys_none o (λ w r k. none_some (table_of n xs i v) r.far e (subst (λ m. table_of n xs m v ≡ Some r.far) k r.at))

  module _ (f : ℕ) (at : table_of n xs i v ≡ Some f) where
    pub keys_before : (o : Option ℕ) → f * 64 + i < bar → LeastOf (KeyedTo n xs v bar i) o → LeastOf (KeyedTo n xs v bar (i + 1)) o
    keys_before o h = keys_none o (λ w r k. omega (arith, own_key w f r k at, r.from, h))

    pub keys_take : (o : Option ℕ) → i < n → bar ≤ f * 64 + i → LeastOf (KeyedTo n xs v bar i) o → LeastOf (KeyedTo n xs v bar (i + 1)) (Some (lesser_of o (f * 64 + i)))
    keys_take o h from l = least_lesser _ _ o (f * 64 + i) l keys_grow
        (λ w r. ⊎_elim inl (λ e. inr (own_key w f r.0 e at)) (keys_last w r))
        (record { node = i; below = h; far = f; at = at; is = refl; from = from }, omega arith)

pub keys_all : (n : ℕ) (xs : List (Option ℕ)) (v bar i : ℕ) (o : Option ℕ) → n ≤ i → LeastOf (KeyedTo n xs v bar i) o → LeastOf (Keyed n xs v bar) o
keys_all n xs v bar i o past = least_same _ _ o (λ w r. r.0) (λ w r. (r, omega (arith, r.below, past)))

-- the node of a key, among few nodes
module _ {n : ℕ} {xs : List (Option ℕ)} {v bar key : ℕ} (few : n ≤ 64) (k : Keyed n xs v bar key) where
  -- a rank stands for one node and one distance
  pub key_node : (j : Near) → j.node < 64 → rank j ≡ key → (j.node ≡ k.node) × (j.far ≡ k.far)
  key_node j small e =
      let low : k.node < 64 = omega (arith, k.below) in
      (omega (arith, k.is, e), omega (arith, k.is, e))
