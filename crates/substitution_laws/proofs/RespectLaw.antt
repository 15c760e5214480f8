-- `substitute_sum` and `substitute_product`: where their five calls finish, f substituted into the sum or the
-- product of a and b is the sum or the product of what is substituted into each, word for word.
use Rattle.std.proofs.Common.{◌≡◌, sym, ap, ap₂, ◌∙◌, Bool, true, List, [], ◌∷◌, ◌++◌, ℕ, length, get_or, drop}
use Rattle.algebra.specs.Polynomial.{Polynomial, add, mul}
use Rattle.answer.specs.declared.Setting.{Setting}
use Rattle.checks.specs.Settings.{series_in, image_in}
use Rattle.checks.specs.Room.{RoomPassed}
use Rattle.checks.specs.Calls.{Left, left, product_call, substitute_call}
use Rattle.calls.specs.Calls.{is_finished, result_of, work_of, needed_series}
use Rattle.substitution_laws.specs.Laws.{Operation, respect_calls, summing, sum_calls, product_calls}
use Rattle.calls.proofs.Words.{IsSeriesIn, IsMapIn, FixesIn, substituted}
use Rattle.substitution_laws.proofs.Substituting.{substituted-sum, substituted-product}
use Rattle.calls.proofs.Inputs.{positive, small}
use Rattle.calls.proofs.FinishedCalls.{all_finished_parts, needed_image, TwoSeries, Wrote}
use Rattle.calls.proofs.FinishedCalls.{sum-finished, product-finished, substitute-finished}

-- a finished call of the operation writes the image of a polynomial of a and b, and substitution respects it
record Respected (s : Setting) (o : Operation) : Type 0 where
  of : List ℕ → List ℕ → Polynomial
  done : (a b result work : List ℕ) → is_finished (o a b result work).answer ≡ true
      → TwoSeries s a b × Wrote s (image_in s (of a b)) result work (o a b result work)
  law : RoomPassed s [] → {a b f : List ℕ} → IsSeriesIn s a → IsSeriesIn s b → IsMapIn s f → FixesIn s f
      → (r r' r'' : List ℕ)
      → substituted s (image_in s (of a b) ++ r) f
      ≡ image_in s (of (substituted s a f ++ r') (substituted s b f ++ r''))

module _ {s : Setting} {o : Operation} (h : Respected s o) (t a b f : List ℕ)
    (both₀ whole₀ first₀ second₀ apart₀ work₀ : List ℕ) where
  respected : (respect_calls o s t a b f both₀ whole₀ first₀ second₀ apart₀ work₀).answer ≡ true
      → needed_series s (get_or (respect_calls o s t a b f both₀ whole₀ first₀ second₀ apart₀ work₀).slices 1 [])
      ≡ needed_series s (get_or (respect_calls o s t a b f both₀ whole₀ first₀ second₀ apart₀ work₀).slices 4 [])
  unfolding respect_calls
  respected all =
      let c1 = o a b both₀ work₀ in
      let c2 = substitute_call s t (result_of c1) f whole₀ (work_of c1) in
      let c3 = substitute_call s t a f first₀ (work_of c2) in
      let c4 = substitute_call s t b f second₀ (work_of c3) in
      let c5 = o (result_of c3) (result_of c4) apart₀ (work_of c4) in
      let e1 = all_finished_parts c1 (c2 ∷ c3 ∷ c4 ∷ c5 ∷ []) all in
      let e2 = all_finished_parts c2 (c3 ∷ c4 ∷ c5 ∷ []) e1.1 in
      let e3 = all_finished_parts c3 (c4 ∷ c5 ∷ []) e2.1 in
      let e4 = all_finished_parts c4 (c5 ∷ []) e3.1 in
      let e5 = all_finished_parts c5 [] e4.1 in
      let d1 = h.done a b both₀ work₀ e1.0 in
      let d2 = substitute-finished s t (result_of c1) f whole₀ (work_of c1) e2.0 in
      let d3 = substitute-finished s t a f first₀ (work_of c2) e3.0 in
      let d4 = substitute-finished s t b f second₀ (work_of c3) e4.0 in
      let d5 = h.done (result_of c3) (result_of c4) apart₀ (work_of c4) e5.0 in
      let r = d1.1.setting in
      let x = substituted s a f in
      let y = substituted s b f in
      let z = image_in s (h.of a b) in
      ap (needed_series s) d2.1.result_is
      ∙ needed_image r _ _
      ∙ ap (λ (ws : List ℕ). substituted s ws f) d1.1.result_is
      ∙ h.law r d1.0.first d1.0.second d3.0.map d3.0.origin (drop (length z) both₀)
      (drop (length x) first₀) (drop (length y) second₀)
      ∙ ap₂ (λ (u w : List ℕ). image_in s (h.of u w)) (sym d3.1.result_is) (sym d4.1.result_is)
      ∙ sym (needed_image r _ _)
      ∙ sym (ap (needed_series s) d5.1.result_is)

  respect_law : {r : Bool} {both whole first second apart work : List ℕ}
      → left r (both ∷ whole ∷ first ∷ second ∷ apart ∷ work ∷ [])
      ≡ respect_calls o s t a b f both₀ whole₀ first₀ second₀ apart₀ work₀
      → r ≡ true → needed_series s whole ≡ needed_series s apart
  respect_law e all =
      ap (λ (l : Left Bool). needed_series s (get_or l.slices 1 [])) e
      ∙ respected (sym (ap (λ (l : Left Bool). l.answer) e) ∙ all)
      ∙ sym (ap (λ (l : Left Bool). needed_series s (get_or l.slices 4 [])) e)

sum-respected : (s : Setting) → Respected s (summing s)
sum-respected s = record {
  of = λ a b. add (series_in s a) (series_in s b);
  done = sum-finished s;
  law = λ r. substituted-sum s (positive r) (small r);
}

product-respected : (s : Setting) (t : List ℕ) → Respected s (product_call s t)
product-respected s t = record {
  of = λ a b. mul (series_in s a) (series_in s b);
  done = product-finished s t;
  law = λ r. substituted-product s (positive r) (small r);
}

module _ (s : Setting) (t a b f both₀ whole₀ first₀ second₀ apart₀ work₀ : List ℕ)
    {r : Bool} {both whole first second apart work : List ℕ} where
  pub sum-law : left r (both ∷ whole ∷ first ∷ second ∷ apart ∷ work ∷ [])
      ≡ sum_calls s t a b f both₀ whole₀ first₀ second₀ apart₀ work₀
      → r ≡ true → needed_series s whole ≡ needed_series s apart
  sum-law = respect_law (sum-respected s) t a b f both₀ whole₀ first₀ second₀ apart₀ work₀

  pub product_law : left r (both ∷ whole ∷ first ∷ second ∷ apart ∷ work ∷ [])
      ≡ product_calls s t a b f both₀ whole₀ first₀ second₀ apart₀ work₀
      → r ≡ true → needed_series s whole ≡ needed_series s apart
  product_law = respect_law (product-respected s t) t a b f both₀ whole₀ first₀ second₀ apart₀ work₀
