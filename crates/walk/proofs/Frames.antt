-- What a walk leaves as it was: the words from 2 (N + 1) to the end of the marks, and those from its
-- own product on. So its plan holds throughout, and so does the source of a node.
use Rattle.std.proofs.Common.{ℕ, ◌+◌, ◌*◌, ◌≤◌, ◌<◌, ◌≡◌, refl, ap, ◌∙◌, subst, Bool, List, mul-le-mul_right, arith, leb}
use Rattle.algebra.specs.Polynomial.{Monomial, Polynomial}
use Rattle.product.proofs.Prepared.{ready_same, listed_same}
use Rattle.substitution.specs.Levels.{Holds}
use Rattle.series.specs.Image.{position, component}
use Rattle.walk.specs.declared.Plan.{Plan}
use Rattle.walk.specs.Walking.{lower_half, list_at, row, bottom, Planned, Laid, Node, Sums, Kept}
use Rattle.walk.proofs.Sources.{source_same}

pub kept_refl : (s : Plan) (at : ℕ) (w : List ℕ) → Kept s at w w
kept_refl s at w = record {
  size = refl;
  fixed = λ j l h. refl;
  above = λ j h. refl;
  clean = λ z. z;
}

pub kept_trans : {s : Plan} {at at' : ℕ} {w w₁ w₂ : List ℕ} → at' ≤ at → Kept s at w w₁
    → Kept s at' w₁ w₂ → Kept s at w w₂
kept_trans l a b = record {
  size = b.size ∙ a.size;
  fixed = λ j d h. b.fixed j d h ∙ a.fixed j d h;
  above = λ j h. b.above j (omega arith) ∙ a.above j h;
  clean = λ z. b.clean (a.clean z);
}

-- the sums of the components alone count
pub sums_same : {s : Plan} {res : List ℕ} {A B : ℕ → Polynomial}
    → ((i : ℕ) → i < s.components → A i ≡ B i) → Sums s res A → Sums s res B
sums_same {s} {res} e S = record {
  inside = S.inside;
  holds = λ i l.
      subst
      (Holds s.p s.t.z.n s.t.z.v s.t.z.count s.wanted s.cut (component s.t.z.n s.t.z.v i res))
      (e i l) (S.holds i l);
}

-- a listed component lies below the products
pub list_inside : (s : Plan) (k : ℕ) → k < s.t.z.v
    → list_at s.t.z.count k + (s.t.z.count + 1) + (s.t.z.count + 1) ≤ bottom s
list_inside s k l =
    omega (
      arith,
      mul-le-mul_right {m = 2 * k + 4} {n = 2 * s.t.z.v + 4} (s.t.z.count + 1) (omega arith),
    )

pub planned_kept : {s : Plan} {w w' : List ℕ} {ys : ℕ → List ℕ}
    {mark : Monomial → Bool} {κ : ℕ → Monomial → ℕ} {at : ℕ} → Laid s
    → Planned s w ys mark κ → Kept s at w w'
    → Planned s w' ys mark κ
planned_kept {s} {w} {w'} {ys} lay P K = record {
  cut_is = P.cut_is;
  wanted_low = P.wanted_low;
  ready =
      ready_same s.t.z.n s.t.z.v s.t.z.count s.t.z.codes s.columns.orders 0 s.t.words.now w w' K.size
      (λ i l h. K.fixed i (omega (arith, P.ready.apart)) (omega (arith, lay.orders_in)))
      P.ready;
  listed = λ k l.
      listed_same s.t.z.n s.t.z.v s.t.z.count s.t.z.codes s.columns.orders (list_at s.t.z.count k)
      s.t.words.now w w' K.size (ys k) (row s.ends.now k)
      (λ i a h.
      K.fixed i (omega (arith, (P.listed k l).apart)) (omega (arith, list_inside s k l)))
      (P.listed k l);
  origin = P.origin;
  within = P.within;
  ordered = record {
    apart = P.ordered.apart;
    inside = omega (arith, P.ordered.inside, K.size);
    place = λ k l.
        ap position
        (K.fixed (s.columns.marks + 1 + k) (omega (arith, lay.marks_low)) (omega (arith, lay.marks_in)))
        ∙ P.ordered.place k l;
    starts_in = P.ordered.starts_in;
    start = P.ordered.start;
  };
  clean = K.clean P.clean;
  marked = λ q l h.
      ap (λ (x : ℕ). leb 11 (lower_half x + s.cut))
      (K.fixed (s.columns.marks + q) (omega (arith, lay.marks_low)) (omega (arith, lay.marks_in)))
      ∙ P.marked q l h;
  few = P.few;
  outer_in = P.outer_in;
  ascending = P.ascending;
  reduced = P.reduced;
  coefficient = P.coefficient;
}

pub node_kept : {s : Plan} {w w' : List ℕ} {q at left : ℕ} {m : Monomial} {Q : Polynomial}
    → Node s w q at left m Q → Kept s at w w' → Node s w' q at left m Q
node_kept {w = w} {w' = w'} {at = at} N K = record {
  low = N.low;
  high = N.high;
  monomial = N.monomial;
  letters = N.letters;
  source = source_same w w' at K.size K.above N.source;
  within = N.within;
  room = N.room;
}
