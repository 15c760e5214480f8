-- The source of a product: entries at a word that agree with a polynomial up to the order of the cut.
-- Multiplied by a listed component they give the entries of the longer product, which are a source
-- again. And the listed components stand apart.
use Rattle.std.proofs.Common.{ℕ, suc, ◌+◌, ◌*◌, ◌-◌, ◌≤◌, ◌<◌, ◌≡◌, sym, ap₂, ◌∙◌, subst, List, map, mul-le-mul, arith, length, get_or, take, drop, length-drop, ext_get_or, get_or-drop}
use Rattle.algebra.specs.Polynomial.{Polynomial, mul}
use Rattle.algebra.specs.Agreement.{Agree, Within}
use Rattle.algebra.proofs.Agreement.{agree_refl, agree_mul}
use Rattle.series.specs.Image.{position, term_of}
use Rattle.product.specs.Pairs.{order_of}
use Rattle.product.specs.Regions.{Ready, Listed, source_entries}
use Rattle.substitution.specs.Levels.{Cut, Level}
use Rattle.substitution.proofs.Regions.{level_reads, level_agree}
use Rattle.powers.specs.Powers.{Clean, Ordered, PowerIn, Powered}
use Rattle.walk.specs.Walking.{list_at, Source}

module _ {p n v N lo cut : ℕ} (c : Cut p n v N cut) {w : List ℕ} {at : ℕ} {P : Polynomial}
    (i : Source p n v N (lo - 1) cut w at P) where
  -- what multiplying it into another region asks
  pub source_asks : {E os cs ps wanted : ℕ} {t ends starts : List ℕ} (dst : ℕ) (ys : List ℕ)
      → Ready n v N E os t w → Listed n v N ys cs w ends → get_or ends 0 0 ≡ 0
      → Ordered n v N ps w starts → Clean N w → lo ≤ cut → 2 * (N + 1) ≤ at → ps + (N + 1) ≤ dst
      → dst + (N + 1) ≤ length w → os + (N + 1) ≤ dst → cs + (N + 1) ≤ dst → dst + (N + 1) ≤ at
      → wanted ≤ cut → PowerIn n v N E lo wanted cut os cs ps t w ends starts at (get_or w at 0) dst p
  source_asks dst ys ready listed origin ordered clean least apart below result_in orders codes source wanted =
      record {
        multiply = record {
          cut_low = c.cut_low;
          ready = ready;
          second = (ys, listed);
          apart = apart;
          inside = i.inside;
          few = i.few;
          low = i.low;
          high = i.high;
          order = i.order;
          result_apart = omega (arith, ordered.apart);
          result_in = result_in;
          modulus_low = c.modulus_low;
          modulus_high = c.modulus_high;
        };
        ordered = ordered;
        clean = clean;
        below = below;
        orders_below = orders;
        codes_below = codes;
        source_above = source;
        least = omega arith;
        wanted_low = omega arith;
        source = λ j l. omega (arith, i.least j l);
        origin = origin;
      }

  -- multiplied into another region
  pub source_multiplied : {wanted : ℕ} (dst : ℕ) (ys w' : List ℕ) (r : ℕ) → dst + (N + 1) ≤ length w
      → Powered n v N lo wanted cut at (get_or w at 0) dst p ys w w' r
      → Level p n v N lo cut w' dst (mul P (map (term_of n v) ys))
  source_multiplied dst ys w' r room m =
      level_agree (agree_mul p i.agrees (agree_refl p (map (term_of n v) ys)))
      (record {
        inside = omega (arith, m.size);
        few = m.few;
        low = m.low;
        high = m.high;
        least = m.least;
        coefficient = m.coefficient;
        order = m.order;
      })

-- a region that holds a product is a source
pub level_source : {p n v N lo cut : ℕ} → Cut p n v N cut → {w : List ℕ} {at : ℕ} {P : Polynomial}
    → Level p n v N lo cut w at P → Within v P → Source p n v N lo cut w at P
level_source c i within = record {
  inside = omega (arith, i.inside, i.few);
  few = i.few;
  low = i.low;
  high = i.high;
  least = i.least;
  order = i.order;
  agrees = level_reads c i within;
}

-- each list ends where the next begins
pub lists-apart : (N k i : ℕ) → k < i → list_at N k + (N + 1) + (N + 1) ≤ list_at N i
lists-apart N k i l =
    let a : k + 2 ≤ i + 1 = omega arith in
    let b : 2 * (N + 1) ≤ 2 * (N + 1) = omega arith in
    omega (arith, mul-le-mul a b)

-- a source whose words are as before
module _ (w w' : List ℕ) (at : ℕ) (size : length w' ≡ length w)
    (same : (j : ℕ) → at ≤ j → get_or w' j 0 ≡ get_or w j 0) where
  rest : drop (at + 1) w' ≡ drop (at + 1) w
  rest =
      ext_get_or 0 (drop (at + 1) w') (drop (at + 1) w)
      (length-drop (at + 1) w' ∙ omega (arith, length-drop (at + 1) w))
      (λ j l.
      get_or-drop (at + 1) w' j 0 ∙ same (at + 1 + j) (omega arith) ∙ sym (get_or-drop (at + 1) w j 0))

  number_same : get_or w' at 0 ≡ get_or w at 0
  number_same = same at (omega arith)

  entries-same : source_entries w' at (get_or w' at 0) ≡ source_entries w at (get_or w at 0)
  unfolding source_entries
  entries-same = ap₂ (λ (m : ℕ) (x : List ℕ). take m x) number_same rest

  pub source_same : {p n v N lo cut : ℕ} {P : Polynomial} → Source p n v N lo cut w at P
      → Source p n v N lo cut w' at P
  source_same {p} {n} {v} {N} {lo} {cut} {P} i = record {
    inside = omega (arith, number_same, i.inside);
    few = omega (arith, number_same, i.few);
    low = λ j l.
        subst (λ (x : ℕ). 1 ≤ position x) (sym (same (at + 1 + j) (omega arith)))
        (i.low j (omega (arith, number_same)));
    high = λ j l.
        subst (λ (x : ℕ). position x ≤ N) (sym (same (at + 1 + j) (omega arith)))
        (i.high j (omega (arith, number_same)));
    least = λ j l.
        subst (λ (x : ℕ). lo ≤ order_of n v x) (sym (same (at + 1 + j) (omega arith)))
        (i.least j (omega (arith, number_same)));
    order = λ j l.
        subst (λ (x : ℕ). order_of n v x ≤ cut) (sym (same (at + 1 + j) (omega arith)))
        (i.order j (omega (arith, number_same)));
    agrees =
        subst (λ (es : List ℕ). Agree p (suc cut) (map (term_of n v) es) P) (sym entries-same)
        i.agrees;
  }
