-- The multiples of the entries are the entries of the multiple: p is prime. Where c is 0 there are none.
use Rattle.std.proofs.Common.{◌≡◌, sym, ap, ◌∙◌, List, [], ◌++◌, append-nil, map, ℕ, ◌+◌, ◌-◌, ◌*◌, ◌%◌, ◌<◌, arith, length, get_or, drop, rules}
use Rattle.series.specs.Image.{entries, scaled, coefficient_at, packed, image_of}
use Rattle.series.specs.Series.{IsSeries}
use Rattle.series.proofs.Series.{fault_none_to_long, fault_none_to_series}
use Rattle.combination.proofs.CodeWritten.{Room, nothing_written, more-written}
use Rattle.combination.proofs.CodeWritten.{all-written}
use Rattle.combination.proofs.CodeMultiple.{length-multiples, multiple_packed, multiple_none}
use Rattle.combination.proofs.multiple.Goals as goal
use Rattle.combination.proofs.multiple.Goals.{Start}

-- The multiples of the entries are the entries of the multiple: p is prime. Where c is 0 there are none.
module _ (call : Start) where
  abbrev N : ℕ
  N = call.args.lim.count

  abbrev ws : List ℕ
  ws = call.args.a.now

  abbrev c : ℕ
  c = call.args.c

  abbrev p : ℕ
  p = call.args.lim.p

  series : IsSeries p N ws
  series =
      let e = call.requires.a_value in
      fault_none_to_series p N ws e (fault_none_to_long p N call.args.lim.positions.0 _ e)

  -- what is written
  abbrev es : List ℕ
  es = map (scaled p c) (drop 0 (entries ws))

  many : length es ≡ get_or ws 0 0 - 0
  many =
      let s = series in
      length-multiples p c 0 ws (omega arith) (omega (arith, s.few, s.long))

  space : Room N call.args.res.now es
  space = record { few = omega (arith, many, series.few); fits = call.requires.count_in_bounds }

  -- what the result is, and what it is to be
  abbrev result : List ℕ → List ℕ
  result xs = image_of N xs ++ drop (N + 1) call.args.res.now

  abbrev wanted : List ℕ
  wanted = packed (λ q. (c * coefficient_at (entries ws) q) % p) N

pub returns-then-c-eq0 : goal.returns-then-c-eq0
returns-then-c-eq0 c =
    let s = (goal.at.returns-then-c-eq0 c).Start in
    let z : s.args.c ≡ 0 = omega arith in
    let none : Room (N s) s.args.res.now [] =
    record { few = omega arith; fits = s.requires.count_in_bounds } in
    c.finish.ensures
    ∙ all-written none (nothing_written s.args.res.now [])
    ∙ ap (result s) (sym (multiple_none (p s) (N s) s.args.c (entries (ws s)) z))

pub put_terms-at-requires-clause-words_in_bounds : goal.put_terms-at-requires-clause-words_in_bounds
put_terms-at-requires-clause-words_in_bounds c =
    let s = (goal.at.put_terms-at-requires-clause-words_in_bounds c).Start in
    let x = series s in
    let large = s.args.lim.prime in omega (arith, x.few, x.long)

pub put_terms-at-requires-clause-from_in_bounds : goal.put_terms-at-requires-clause-from_in_bounds
put_terms-at-requires-clause-from_in_bounds c =
    let s = (goal.at.put_terms-at-requires-clause-from_in_bounds c).Start in
    let x = series s in
    let large = s.args.lim.prime in omega (arith, x.few, s.requires.count_in_bounds)

pub finish-requires-2-clause-at_bound : goal.finish-requires-2-clause-at_bound
finish-requires-2-clause-at_bound c =
    let s = (goal.at.finish-requires-2-clause-at_bound c).Start in
    let o = c.put_terms-at in
    let e = o.ensures.value in omega (arith, e, (series s).few)

pub returns : goal.returns
returns c =
    let s = (goal.at.returns c).Start in
    let o = c.put_terms-at.ensures in
    let pos : 0 < s.args.c = omega arith in
    let w =
    more-written (space s) (nothing_written s.args.res.now (es s)) (es s) []
    (sym (append-nil (es s))) (o.value ∙ ap (λ x. 1 + x) (sym (many s)))
    (o.res_after (p s) s.args.c (λ k l y e. search rules)) in
    c.finish-2.ensures
    ∙ all-written (space s) w
    ∙ ap (result s)
    (multiple_packed s.args.lim.prime.0 s.args.lim.prime.2 s.args.c pos s.requires.c_lt_p (N s)
    (series s).ascending)
