-- Substitution, word for word: of a map and then of another, into a sum, into a product. An image
-- reads back to a polynomial that agrees with the one it was made of; substitution of an
-- origin-fixing map, sum and product respect agreement; the laws of polynomials are in the crate
-- algebra; and agreeing polynomials have the same image. What stands beyond the words that a call
-- wrote (r, r', r'') is any.
use Rattle.std.proofs.Common.{◌≡◌, List, ◌++◌, ℕ, ◌≤◌, ◌<◌}
use Rattle.algebra.specs.Polynomial.{add, mul}
use Rattle.algebra.specs.Substitution.{substitute, compose}
use Rattle.algebra.proofs.Within.{within_add, within_mul, within_substitute, within_compose}
use Rattle.algebra.proofs.Agreement.{agree_sym, agree_trans, agree_exact, agree_add, agree_mul}
use Rattle.algebra.proofs.Substitute.{substitute-add, substitute-mul, substitute-substitute}
use Rattle.algebra.proofs.Truncation.{agree_substitute, agree_substitute_below}
use Rattle.answer.specs.declared.Setting.{Setting}
use Rattle.series.proofs.Reading.{polynomial-within}
use Rattle.series.proofs.Writing.{image-agree, read_image}
use Rattle.series.proofs.Maps.{map_of-within, read_map_image}
use Rattle.checks.specs.Settings.{prime_of, series_in, map_in}
use Rattle.calls.proofs.Words.{IsSeriesIn, IsMapIn, FixesIn, AgreeIn}
use Rattle.calls.proofs.Words.{summed, multiplied, substituted, composed}

module _ (s : Setting) (pos : 0 < prime_of s) (small : prime_of s ≤ 65536) where
  -- ---- what is read back

  module _ {a b : List ℕ} (A : IsSeriesIn s a) (B : IsSeriesIn s b)
      (r : List ℕ) where
    pub read_summed :
        AgreeIn s (series_in s (summed s a b ++ r))
        (add (series_in s a) (series_in s b))
    read_summed =
        let P = series_in s a in
        let Q = series_in s b in
        read_image (prime_of s) s.n s.v pos small (add P Q) r
        (within_add s.v P Q (polynomial-within s.n s.v A) (polynomial-within s.n s.v B))

    pub read_multiplied :
        AgreeIn s (series_in s (multiplied s a b ++ r))
        (mul (series_in s a) (series_in s b))
    read_multiplied =
        let P = series_in s a in
        let Q = series_in s b in
        read_image (prime_of s) s.n s.v pos small (mul P Q) r
        (within_mul s.v P Q (polynomial-within s.n s.v A) (polynomial-within s.n s.v B))

  pub read_substituted : {a f : List ℕ} → IsSeriesIn s a → IsMapIn s f → (r : List ℕ)
      → AgreeIn s (series_in s (substituted s a f ++ r))
      (substitute (series_in s a) (map_in s f))
  read_substituted {a} {f} A F r =
      let P = series_in s a in
      let h = map_in s f in
      read_image (prime_of s) s.n s.v pos small (substitute P h) r
      (within_substitute s.v s.v P h (polynomial-within s.n s.v A) (λ i l. map_of-within F i))

  pub read_composed : {f g : List ℕ} → IsMapIn s f → IsMapIn s g → (r : List ℕ) (i : ℕ) → i < s.v
      → AgreeIn s (map_in s (composed s f g ++ r) i)
      (compose (map_in s f) (map_in s g) i)
  read_composed {f} {g} F G r i l =
      let h = map_in s f in
      let k = map_in s g in
      read_map_image (prime_of s) s.n s.v pos small (compose h k) r i l
      (within_compose s.v s.v h k i (map_of-within F i) (λ j m. map_of-within G j))

  -- ---- the laws

  -- substituting f and then g is substituting their composition, f outer and g inner
  pub substituted-twice : {a f g : List ℕ} → IsSeriesIn s a → IsMapIn s f
      → IsMapIn s g → FixesIn s g → (r r' : List ℕ)
      → substituted s (substituted s a f ++ r) g
      ≡ substituted s a (composed s f g ++ r')
  substituted-twice {a} {f} {g} A F G o r r' =
      let P = series_in s a in
      let h = map_in s f in
      let k = map_in s g in
      image-agree (prime_of s) s.n s.v
      (agree_trans (prime_of s) (agree_substitute (prime_of s) k o (read_substituted A F r))
      (agree_trans (prime_of s) (agree_exact (prime_of s) _ _ (substitute-substitute P h k))
      (agree_substitute_below (prime_of s) s.v P (compose h k) (map_in s (composed s f g ++ r'))
      (polynomial-within s.n s.v A) (λ i l. agree_sym (prime_of s) (read_composed F G r' i l)))))

  module _ {a b f : List ℕ} (A : IsSeriesIn s a) (B : IsSeriesIn s b)
      (F : IsMapIn s f) (o : FixesIn s f) (r r' r'' : List ℕ) where
    -- substituting into a sum is adding what is substituted into each
    pub substituted-sum :
        substituted s (summed s a b ++ r) f
        ≡ summed s (substituted s a f ++ r') (substituted s b f ++ r'')
    substituted-sum =
        let P = series_in s a in
        let Q = series_in s b in
        let h = map_in s f in
        image-agree (prime_of s) s.n s.v
        (agree_trans (prime_of s) (agree_substitute (prime_of s) h o (read_summed A B r))
        (agree_trans (prime_of s) (agree_exact (prime_of s) _ _ (substitute-add P Q h))
        (agree_sym (prime_of s) (agree_add (prime_of s) (read_substituted A F r') (read_substituted B F r'')))))

    -- substituting into a product is multiplying what is substituted into each
    pub substituted-product :
        substituted s (multiplied s a b ++ r) f
        ≡ multiplied s (substituted s a f ++ r') (substituted s b f ++ r'')
    substituted-product =
        let P = series_in s a in
        let Q = series_in s b in
        let h = map_in s f in
        image-agree (prime_of s) s.n s.v
        (agree_trans (prime_of s) (agree_substitute (prime_of s) h o (read_multiplied A B r))
        (agree_trans (prime_of s) (agree_exact (prime_of s) _ _ (substitute-mul P Q h))
        (agree_sym (prime_of s) (agree_mul (prime_of s) (read_substituted A F r') (read_substituted B F r'')))))
