-- However exchanges put the columns of a choice in order, their number is odd or even with
-- `exchanges`, the number of pairs that stand in the wrong order. An exchange of neighbours changes
-- it by one, and an exchange of any two places is made of an odd number of such exchanges.
use Rattle.std.proofs.Common.{◌≡◌, refl, sym, ap, ◌∙◌, subst, cond, List, [], ◌∷◌, ◌++◌, ℕ, suc, ◌+◌, ◌%◌, ◌<◌, suc-add, zero-add, arith, ltb, lt-ltb, le-ltb}
use mathlib.Core.List.Memᴰ
use Rattle.std.proofs.Math.Decide.{dec_lt}
use Rattle.algebra.specs.Distinct.{Distinct}
use Rattle.linear.specs.Determinant.{below, exchanges}
use Rattle.linear.specs.Columns.{All, Sorted, Exchanged, ByExchanges, none, more}
use Rattle.linear.proofs.Lists.{all-weaken, no_member, member-none}
use Rattle.linear.proofs.Choices.{below_none}

-- ---- parity

-- r holds the columns of q in another order, an odd number of exchanges away
record Odd (q r : List ℕ) : Type 1 where
  same_below : (c : ℕ) → below c q ≡ below c r
  same_members : (P : ℕ → Type 0) → All P q → All P r
  distinct : Distinct q → Distinct r
  parity : Distinct q → (exchanges q + exchanges r) % 2 ≡ 1

-- of two columns, one is below the other
one_below : (a b : ℕ) → (a ≡ b → ⊥) → cond (ltb a b) 1 0 + cond (ltb b a) 1 0 ≡ 1
one_below a b n = elim (dec_lt a b) [
  | yes l ↦ rw (lt-ltb a b l, le-ltb b a (omega arith))
  | no l ↦ rw (le-ltb a b (omega arith), lt-ltb b a (omega arith))
]

neighbours : (a b : ℕ) (post : List ℕ) → Odd (a ∷ b ∷ post) (b ∷ a ∷ post)
unfolding below exchanges
neighbours a b post = record {
  same_below = λ c. omega arith;
  same_members = λ P h. (h.1.0, (h.0, h.1.1));
  distinct = λ d. (
    no_member (a ∷ post) ((λ e. d.0 (Memᴰ.head (sym e))), member-none post d.1.0),
    ((λ m. d.0 (Memᴰ.tail m)), d.1.1),
  );
  parity = λ d. omega (arith, one_below a b (λ e. d.0 (Memᴰ.head e)));
}

odd_cons : (x : ℕ) (q r : List ℕ) → Odd q r → Odd (x ∷ q) (x ∷ r)
unfolding below exchanges
odd_cons x q r o = record {
  same_below = λ c. ap (λ (n : ℕ). cond (ltb x c) 1 0 + n) (o.same_below c);
  same_members = λ P h. (h.0, o.same_members P h.1);
  distinct = λ d.
      (no_member r (o.same_members (λ y. x ≡ y → ⊥) (member-none q d.0)), o.distinct d.1);
  parity = λ d. omega (arith, o.same_below x, o.parity d.1);
}

odd_three : (q r s t : List ℕ) → Odd q r → Odd r s → Odd s t → Odd q t
odd_three q r s t f g h = record {
  same_below = λ c. f.same_below c ∙ g.same_below c ∙ h.same_below c;
  same_members = λ P a. h.same_members P (g.same_members P (f.same_members P a));
  distinct = λ d. h.distinct (g.distinct (f.distinct d));
  parity = λ d.
      let r-distinct = f.distinct d in
      omega (arith, f.parity d, g.parity r-distinct, h.parity (g.distinct r-distinct));
}

-- a and b exchanged: a goes past the first column between them, then they are exchanged across the
-- others, then b goes past that column
two_places : (a : ℕ) (mid : List ℕ) (b : ℕ) (post : List ℕ)
    → Odd (a ∷ (mid ++ b ∷ post)) (b ∷ (mid ++ a ∷ post))
two_places a [] b post = neighbours a b post
two_places a (x ∷ mid) b post =
    odd_three _ _ _ _
    (neighbours a x (mid ++ b ∷ post))
    (odd_cons x _ _ (two_places a mid b post))
    (neighbours x b (mid ++ a ∷ post))

odd_append : (pre q r : List ℕ) → Odd q r → Odd (pre ++ q) (pre ++ r)
odd_append [] q r o = o
odd_append (x ∷ pre) q r o = odd_cons x (pre ++ q) (pre ++ r) (odd_append pre q r o)

exchange_odd : {q r : List ℕ} → Exchanged q r → Odd q r
exchange_odd e =
    rw (e.before, e.after) (odd_append e.pre _ _ (two_places e.a e.mid e.b e.post))

sorted_exchanges : (q : List ℕ) → Sorted q → exchanges q ≡ 0
unfolding Sorted exchanges
sorted_exchanges [] s = refl
sorted_exchanges (c ∷ cs) s = omega (arith, below_none c cs s.0, sorted_exchanges cs s.1)

-- exchanging two columns of a choice makes an odd number of exchanges even, and an even one odd
pub exchange_parity : {q r : List ℕ} → Exchanged q r → Distinct q
    → (exchanges q + exchanges r) % 2 ≡ 1
exchange_parity e d = (exchange_odd e).parity d

-- whatever exchanges put the columns in order
pub exchanges-parity : {n : ℕ} {q r : List ℕ} → ByExchanges n q r → Distinct q → Sorted r
    → n % 2 ≡ exchanges q % 2
exchanges-parity {q = q} none d s = rw (sorted_exchanges q s)
exchanges-parity (more {n = n} {q = q} {r = r} e h) d s =
    omega (arith, exchange_parity e d, exchanges-parity h ((exchange_odd e).distinct d) s)

-- ---- `exchanges` exchanges do put the columns in order

exchanged_cons : (x : ℕ) {q r : List ℕ} → Exchanged q r → Exchanged (x ∷ q) (x ∷ r)
exchanged_cons x e = record {
  pre = x ∷ e.pre;
  a = e.a;
  mid = e.mid;
  b = e.b;
  post = e.post;
  before = ap (λ (l : List ℕ). x ∷ l) e.before;
  after = ap (λ (l : List ℕ). x ∷ l) e.after;
}

by_cons : (x : ℕ) {n : ℕ} {q r : List ℕ} → ByExchanges n q r → ByExchanges n (x ∷ q) (x ∷ r)
by_cons x none = none
by_cons x (more e h) = more (exchanged_cons x e) (by_cons x h)

by_same : {m n : ℕ} {q r : List ℕ} → m ≡ n → ByExchanges m q r → ByExchanges n q r
by_same {q = q} {r = r} e h = subst (λ (k : ℕ). ByExchanges k q r) e h

by_both : {m n : ℕ} {q r s : List ℕ} → ByExchanges m q r → ByExchanges n r s
    → ByExchanges (m + n) q s
by_both {n = n} none h = by_same (sym (zero-add n)) h
by_both {n = n} (more {n = m} e g) h = by_same (sym (suc-add m n)) (more e (by_both g h))

by_below : {n : ℕ} {q r : List ℕ} → ByExchanges n q r → (c : ℕ) → below c q ≡ below c r
by_below none c = refl
by_below (more e h) c = (exchange_odd e).same_below c ∙ by_below h c

by_members : {n : ℕ} {q r : List ℕ} → ByExchanges n q r → (P : ℕ → Type 0) → All P q → All P r
by_members none P a = a
by_members (more e h) P a = by_members h P ((exchange_odd e).same_members P a)

-- a column brought to its place among others that are in order
inserted : (c : ℕ) (s : List ℕ) → Sorted s → All (λ x. c ≡ x → ⊥) s
    → (r : List ℕ) × Sorted r × ByExchanges (below c s) (c ∷ s) r
unfolding Sorted below
inserted c [] s d = (c ∷ [], (tt, tt), none)
inserted c (x ∷ cs) s d = place (dec_lt c x) (inserted c cs s.1 d.1)
  where
    place : Dec (c < x) → (r : List ℕ) × Sorted r × ByExchanges (below c cs) (c ∷ cs) r
        → (r : List ℕ) × Sorted r × ByExchanges (below c (x ∷ cs)) (c ∷ x ∷ cs) r
    place (yes l) rest =
        let all : All (λ y. c < y) (x ∷ cs) =
        (l, all-weaken (λ y. x < y) (λ y. c < y) (λ y k. omega arith) cs s.0) in
        (c ∷ x ∷ cs, (all, s), by_same (sym (below_none c (x ∷ cs) all)) none)
    place (no l) rest =
        let less : x < c = omega (arith, d.0) in
        let first : Exchanged (c ∷ x ∷ cs) (x ∷ c ∷ cs) =
        record { pre = []; a = c; mid = []; b = x; post = cs; before = refl; after = refl } in
        let all : All (λ y. x < y) rest.0 = by_members rest.2 (λ y. x < y) (less, s.0) in
        let count : suc (below c cs) ≡ below c (x ∷ cs) = rw (lt-ltb x c less) (omega arith) in
        (x ∷ rest.0, (all, rest.1), by_same count (more first (by_cons x rest.2)))

-- the columns put in order
pub in_order : (q : List ℕ) → Distinct q → (r : List ℕ) × Sorted r × ByExchanges (exchanges q) q r
unfolding exchanges
in_order [] d = ([], (unfold Sorted in tt), none)
in_order (c ∷ cs) d =
    let rest = in_order cs d.1 in
    let done = inserted c rest.0 rest.1 (by_members rest.2 (λ x. c ≡ x → ⊥) (member-none cs d.0)) in
    let count : exchanges cs + below c rest.0 ≡ below c cs + exchanges cs =
    omega (arith, by_below rest.2 c) in
    (done.0, done.1, by_same count (by_both (by_cons c rest.2) done.2))
