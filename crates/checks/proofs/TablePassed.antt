-- A table that passed its check is the table of the rule; the words that the operations write.
use Rattle.std.proofs.Common.{◌≡◌, sym, ap, ap₂, ◌∙◌, subst, Bool, List, [], ◌∷◌, ◌++◌, ℕ, zero, suc, ◌+◌, ◌≤◌, ◌<◌, one-mul, arith, eq-eqb, ne_eqb, length, get_or, drop}
use Rattle.std.proofs.Math.Path.{fun_ext}
use Rattle.std.proofs.Math.Decide.{ℕ_discrete}
use Rattle.algebra.specs.Polynomial.{Polynomial, scale}
use Rattle.algebra.proofs.Weigh.{weigh-scale}
use Rattle.algebra.proofs.Agreement.{agree_exact}
use Rattle.monomial.specs.Count.{count, words, Allowed}
use Rattle.monomial.specs.Table.{table_words}
use Rattle.monomial.specs.Difference.{first_difference, suc_if}
use Rattle.answer.specs.Refusals.{passed}
use Rattle.answer.specs.Checks.{table_check}
use Rattle.answer.proofs.Passing.{table-passed}
use Rattle.series.specs.Image.{image}
use Rattle.series.proofs.Writing.{image-agree, length-image}
use Rattle.counts.specs.Tables.{Right}

-- words before the first difference are the same
same-words : (xs ys : List ℕ) (i : ℕ) → i < first_difference xs ys → get_or ys i 0 ≡ get_or xs i 0
unfolding first_difference
same-words [] ys i l = absurd (omega arith)
same-words (x ∷ xs) [] i l = absurd (omega arith)
same-words (x ∷ xs) (y ∷ ys) zero l = go (ℕ_discrete x y)
  where
    go : Dec (x ≡ y) → y ≡ x
    go (yes e) = sym e
    go (no e) =
        let m : 0 < 0 = subst (λ (b : Bool). 0 < suc_if b (first_difference xs ys)) (ne_eqb x y e) l in
        absurd (omega (arith, m))
same-words (x ∷ xs) (y ∷ ys) (suc i) l = same-words xs ys i (go (ℕ_discrete x y))
  where
    go : Dec (x ≡ y) → i < first_difference xs ys
    go (yes e) =
        let m : suc i < suc (first_difference xs ys) = subst (λ (b : Bool). suc i < suc_if b (first_difference xs ys)) (eq-eqb x y e) l in
        omega (arith, m)
    go (no e) =
        let m : suc i < 0 = subst (λ (b : Bool). suc i < suc_if b (first_difference xs ys)) (ne_eqb x y e) l in
        absurd (omega (arith, m))

pub right_table : (n v : ℕ) (t : List ℕ) → Allowed n v → words n v ≤ length t → table_check n v t ≡ passed → Right n v t
right_table n v t a l e =
    record {
      allowed = a;
      long = l;
      word = λ i k. same-words (table_words n v) t i (omega (arith, k, table-passed n v t e));
    }

-- what a core wrote, in the words of the contract
module _ (p n v : ℕ) (pos : 0 < p) (small : p ≤ 65536) (old new : List ℕ) (k q : ℕ) (e : k ≡ count n v) (f : q ≡ p) where
  pub image-written : (X : Polynomial) → new ≡ image q n v X ++ drop (k + 1) old
      → new ≡ image p n v X ++ drop (length (image p n v X)) old
  image-written X h =
      h
      ∙ ap₂ (λ (x y : ℕ). image y n v X ++ drop (x + 1) old) e f
      ∙ ap (λ (l : ℕ). image p n v X ++ drop l old) (sym (length-image p n v pos small X))

  pub once_written : (X : Polynomial) → new ≡ image q n v (scale 1 X) ++ drop (k + 1) old
      → new ≡ image p n v X ++ drop (length (image p n v X)) old
  once_written X h =
      image-written X (h ∙ ap (λ (z : List ℕ). z ++ drop (k + 1) old) (image-agree q n v (agree_exact q (scale 1 X) X (fun_ext (λ φ. weigh-scale 1 X φ ∙ one-mul _)))))
