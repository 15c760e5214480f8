-- Adding multiples of entries, one after another, to residues by position: the residue at q has grown
-- by c times the coefficient that the entries so far give to q.
use Rattle.std.proofs.Common.{ℕ, ◌+◌, ◌-◌, ◌*◌, ◌%◌, ◌≤◌, ◌<◌, ◌≡◌, refl, sym, ap, ◌∙◌, List, [], ◌∷◌, ◌++◌, mul-le-mul, mod-eq_of_lt, mod-lt, add-zero, mul-zero, zero-mul, add-one, arith, length, get_or, set, take, length-set, get_or-set_same, get_or-set_other, get_or-take, get_or-drop, take-suc, take_all, drop, length-take, length-take-le, length-drop}
use Rattle.std.proofs.Math.Nat.{mod-add-mod}
use Rattle.std.proofs.Math.Decide.{ℕ_discrete}
use Rattle.series.specs.Image.{position, coefficient, coefficient_at}
use Rattle.series.proofs.Entries.{coefficient_at-nil, coefficient_at-append, coefficient_at-here}
use Rattle.series.proofs.Entries.{coefficient_at-there}
use Rattle.substitution.specs.Accumulate.{entries_from, AddScaledIn, AddedScaled}
use Rattle.product.proofs.Sources.{length-source, source_at}

-- a multiple by 0 changes nothing
pub added_none : (res w : List ℕ) (at first c p : ℕ) → AddScaledIn res w at first c p → c ≡ 0
    → AddedScaled res w at first c p res
added_none res w at first c p a e = record {
  size = refl;
  start = refl;
  sum = λ q l h.
      let x = coefficient_at (entries_from w at first) q in
      let z : get_or res q 0 + c * x ≡ get_or res q 0 =
      ap (λ (y : ℕ). get_or res q 0 + y * x) e ∙ omega (arith, zero-mul x) in
      sym (ap (λ (y : ℕ). y % p) z ∙ mod-eq_of_lt (a.residues q l h));
}

-- the residues after the entries es
pub record Adding (res es : List ℕ) (c p : ℕ) (r : List ℕ) : Type 0 where
  pub size : length r ≡ length res
  pub first : get_or r 0 0 ≡ get_or res 0 0
  pub sum : (q : ℕ) → 1 ≤ q → q < length res
      → get_or r q 0 ≡ (get_or res q 0 + c * coefficient_at es q) % p

module _ (res : List ℕ) (c p : ℕ) where
  pub adding_none : ((q : ℕ) → 1 ≤ q → q < length res → get_or res q 0 < p) → Adding res [] c p res
  adding_none small = record {
    size = refl;
    first = refl;
    sum = λ q a l.
        let z : c * coefficient_at [] q ≡ 0 =
        ap (λ (x : ℕ). c * x) (coefficient_at-nil q) ∙ mul-zero c in
        sym
        (ap (λ (x : ℕ). (get_or res q 0 + x) % p) z
        ∙ ap (λ (x : ℕ). x % p) (add-zero (get_or res q 0))
        ∙ mod-eq_of_lt (small q a l));
  }

  adding_small : 0 < p → (es r : List ℕ) → Adding res es c p r → (q : ℕ) → 1 ≤ q → q < length res
      → get_or r q 0 < p
  adding_small pos es r A q a l =
      omega (arith, A.sum q a l, mod-lt (get_or res q 0 + c * coefficient_at es q) pos)

  -- one entry more
  pub adding_more : (es r : List ℕ) (w x : ℕ) → Adding res es c p r → 1 ≤ position w
      → position w < length res → x ≡ (get_or r (position w) 0 + c * coefficient w) % p
      → Adding res (es ++ w ∷ []) c p (set r (position w) x)
  adding_more es r w x A low high e = record {
    size = length-set r (position w) x ∙ A.size;
    first = get_or-set_other r (position w) 0 x 0 (λ k. omega arith) ∙ A.first;
    sum = λ q a l. at q a l (ℕ_discrete (position w) q);
  }
    where
      spread : (o c a b : ℕ) → o + c * a + c * b ≡ o + c * (a + b)
      spread o c a b = omega arith

      at : (q : ℕ) → 1 ≤ q → q < length res → Dec (position w ≡ q)
          → get_or (set r (position w) x) q 0
          ≡ (get_or res q 0 + c * coefficient_at (es ++ w ∷ []) q) % p
      at q a l (yes k) =
          let y : coefficient_at (w ∷ []) q ≡ coefficient w =
          coefficient_at-here w [] q k ∙ omega (arith, coefficient_at-nil q) in
          ap (λ (j : ℕ). get_or (set r (position w) x) j 0) (sym k)
          ∙ get_or-set_same r (position w) x 0 (omega (arith, A.size))
          ∙ e
          ∙ ap (λ (z : ℕ). (z + c * coefficient w) % p)
          (ap (λ (j : ℕ). get_or r j 0) k ∙ A.sum q a l)
          ∙ mod-add-mod (get_or res q 0 + c * coefficient_at es q) p (c * coefficient w)
          ∙ ap (λ (z : ℕ). z % p)
          (spread (get_or res q 0) c (coefficient_at es q) (coefficient w)
          ∙ ap (λ (z : ℕ). get_or res q 0 + c * z)
          (ap (λ (z : ℕ). coefficient_at es q + z) (sym y)
          ∙ sym (coefficient_at-append es (w ∷ []) q)))
      at q a l (no k) =
          let y : coefficient_at (w ∷ []) q ≡ 0 =
          coefficient_at-there w [] q k ∙ coefficient_at-nil q in
          get_or-set_other r (position w) q x 0 (λ h. k (sym h))
          ∙ A.sum q a l
          ∙ ap (λ (z : ℕ). (get_or res q 0 + c * z) % p)
          (sym (add-zero (coefficient_at es q))
          ∙ ap (λ (z : ℕ). coefficient_at es q + z) (sym y)
          ∙ sym (coefficient_at-append es (w ∷ []) q))

-- ---- the series at a word

-- the residues r after the entries from number `first` to number i of the series at word `at`
pub record AddedUpto (res w : List ℕ) (at first c p : ℕ) (r : List ℕ) (i : ℕ) : Type 0 where
  pub begun : first ≤ i
  pub few : i ≤ get_or w at 0
  pub added : Adding res (take (i - first) (entries_from w at first)) c p r

-- the same, entry i being the next, at position q
pub record Turn (res w : List ℕ) (at first c p : ℕ) (r : List ℕ) (i q : ℕ) : Type 0 where
  pub asks : AddScaledIn res w at first c p
  pub upto : AddedUpto res w at first c p r i
  pub next : i < get_or w at 0
  pub is : q ≡ position (get_or w (at + 1 + i) 0)

module _ {res w : List ℕ} {at first c p : ℕ} (a : AddScaledIn res w at first c p) where
  abbrev es : List ℕ
  es = entries_from w at first

  later : at + first + 1 + (get_or w at 0 - first) ≤ length w
  later = omega (arith, a.inside, a.few)

  length-es : length (entries_from w at first) ≡ get_or w at 0 - first
  length-es = length-source w (at + first) (get_or w at 0 - first) later

  entry_at : (i : ℕ) → first ≤ i → i < get_or w at 0
      → get_or (entries_from w at first) (i - first) 0 ≡ get_or w (at + 1 + i) 0
  entry_at i b l =
      let e : at + first + 1 + (i - first) ≡ at + 1 + i = omega arith in
      source_at w (at + first) (get_or w at 0 - first) later (i - first) (omega arith)
      ∙ ap (λ (x : ℕ). get_or w x 0) e

  -- the entries as they are lent to a loop
  pub turns-few : {i : ℕ}
      → i < length (take (at + 1 + get_or w at 0 - (at + 1 + first)) (drop (at + 1 + first) w))
      → first + i < get_or w at 0
  turns-few l = omega (arith, length-take (at + 1 + get_or w at 0 - (at + 1 + first)) (drop (at + 1 + first) w), a.few)

  pub turns-all : {i : ℕ}
      → length (take (at + 1 + get_or w at 0 - (at + 1 + first)) (drop (at + 1 + first) w)) ≤ i
      → get_or w at 0 ≤ first + i
  turns-all l =
      let m = at + 1 + get_or w at 0 - (at + 1 + first) in
      let s = drop (at + 1 + first) w in
      omega (arith, length-take-le m s (omega (arith, length-drop (at + 1 + first) w, a.inside)), a.few)

  pub entry-lent : (i : ℕ)
      → i < length (take (at + 1 + get_or w at 0 - (at + 1 + first)) (drop (at + 1 + first) w))
      → get_or (take (at + 1 + get_or w at 0 - (at + 1 + first)) (drop (at + 1 + first) w)) i 0
      ≡ get_or w (at + 1 + (first + i)) 0
  entry-lent i l =
      let m = at + 1 + get_or w at 0 - (at + 1 + first) in
      let s = drop (at + 1 + first) w in
      let e : at + 1 + first + i ≡ at + 1 + (first + i) = omega arith in
      get_or-take m s i 0 (omega (arith, length-take m s))
      ∙ get_or-drop (at + 1 + first) w i 0
      ∙ ap (λ (x : ℕ). get_or w x 0) e

  pub scaled-none : AddedUpto res w at first c p res first
  scaled-none =
      let e : first - first ≡ 0 = omega arith in
      record {
        begun = omega arith;
        few = a.few;
        added = rw e (adding_none res c p a.residues);
      }

  pub scaled-all : {r : List ℕ} {i : ℕ} → get_or w at 0 ≤ i → AddedUpto res w at first c p r i
      → AddedScaled res w at first c p r
  scaled-all {r} {i} l u = record {
    size = u.added.size;
    start = u.added.first;
    sum = λ q b h.
        u.added.sum q b h
        ∙ ap (λ (x : List ℕ). (get_or res q 0 + c * coefficient_at x q) % p)
        (take_all (i - first) es (omega (arith, length-es)));
  }

module _ {res w : List ℕ} {at first c p : ℕ} {r : List ℕ} {i q : ℕ}
    (t : Turn res w at first c p r i q) where
  low : 1 ≤ q
  low = omega (arith, t.is, t.asks.low i t.next)

  high : q < length res
  high = omega (arith, t.is, t.asks.high i t.next)

  pub turn_inside : q < length r
  turn_inside = omega (arith, high, t.upto.added.size)

  -- the sum fits 32 bits
  pub turn-bound : get_or r q 0 + c * (get_or w (at + 1 + i) 0 % 65536) < 4294967296
  turn-bound =
      let a : c ≤ 65535 = omega (arith, t.asks.factor, t.asks.modulus_high) in
      let b : get_or w (at + 1 + i) 0 % 65536 ≤ 65535 = omega arith in
      omega (
        arith,
        mul-le-mul a b,
        adding_small res c p (omega (arith, t.asks.factor)) (take (i - first) (es t.asks)) r
            t.upto.added q low high,
        t.asks.modulus_high,
      )

  pub turn-done : (x : ℕ) → x ≡ (get_or r q 0 + c * coefficient (get_or w (at + 1 + i) 0)) % p
      → AddedUpto res w at first c p (set r q x) (i + 1)
  turn-done x e = record {
    begun = omega (arith, t.upto.begun);
    few = omega (arith, t.next);
    added = rw (next-entry, t.is) more;
  }
    where
      v : ℕ
      v = get_or w (at + 1 + i) 0

      s : List ℕ
      s = es t.asks

      next-entry : take (i + 1 - first) s ≡ take (i - first) s ++ v ∷ []
      next-entry =
          let k : i + 1 - first ≡ i - first + 1 = omega (arith, t.upto.begun) in
          ap (λ (k : ℕ). take k s) (k ∙ add-one (i - first))
          ∙ take-suc s (i - first) 0 (omega (arith, t.next, t.upto.begun, length-es t.asks))
          ∙ ap (λ (y : ℕ). take (i - first) s ++ y ∷ [])
          (entry_at t.asks i t.upto.begun t.next)

      more : Adding res (take (i - first) s ++ v ∷ []) c p (set r (position v) x)
      more =
          adding_more res c p (take (i - first) s) r v x t.upto.added (t.asks.low i t.next)
          (t.asks.high i t.next)
          (e ∙ ap (λ (k : ℕ). (get_or r k 0 + c * coefficient v) % p) t.is)
