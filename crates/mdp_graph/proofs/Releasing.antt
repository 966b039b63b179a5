-- Choices that stop waiting, one after the other.
use Rattle.std.proofs.Common.{◌≡◌, ◌≢◌, inl, inr, ℕ, zero, suc, ◌+◌, ◌-◌, ◌<◌, Bool, true, false}
use Rattle.std.proofs.Common.{◌||◌, ◌&&◌, ◌==◌, not, cond, List, [], ◌∷◌, ◌++◌, length, map, replicate, take}
use Rattle.std.proofs.{Common.{get_or, set, refl, sym, ap, ◌∙◌, arith, eq-eqb, Option, is_none}, lemmas.Bool.{ne_eqb, false≢true, cases_eq}}
use Rattle.std.proofs.lemmas.List.{get_or-map, length-map, length-replicate, get_or-replicate, get_or-set_other, length-set, map-set, take_more, append-nil}
use Rattle.std.proofs.{lemmas.List.Folds.{sum_by-replicate, list_any-append}, lemmas.List.FromFn.{length-map-range_with_len, get_or-map-range_with_len}}
use Rattle.std.proofs.{lemmas.List.Sums.{sum_by-cons, sum_by-set}, lemmas.Grind.{get_or-set_at, flat_map-append}}
use Rattle.std.specs.List.{list_any, range_with_len, flat_map}
use Rattle.mdp_spec.specs.Mdp.{Mdp, states_of, choices_at, row_at}
use Rattle.mdp_rows.specs.{Preds.{is_among, pair}, declared.preds.Pred.{Pred}}
use Rattle.mdp_graph.specs.Layers.{rank_at}
use Rattle.mdp_graph.specs.Waiting.{waits, some_waits, count_waiting, all_wait, AreWaiting, is_one_of, AreWithin, AreReleased, AreMet, leading_to}
use Rattle.mdp_graph.proofs.{Among.{among-append}, RowSets.{list_any-at, list_any-by, enters-never}}
use Rattle.mdp_math.proofs.Booleans.{or-true, or-false, and-false, and-true, and-left, and-both, same_truth}

-- ---- before the first release

counts_all : (counts : List ℕ) → counts ≡ map count_waiting (map (λ n. replicate n true) counts)
counts_all [] = refl
counts_all (n ∷ counts) =
    let c = sum_by-replicate (λ (b : Bool). cond b 1 0) n true in
    let here : n ≡ count_waiting (replicate n true) = omega (arith, c) in
    ap (λ k. k ∷ counts) here ∙ ap (λ (rest : List ℕ). count_waiting (replicate n true) ∷ rest) (counts_all counts)

pub all_counted : (counts : List ℕ) (lists : List (List Bool)) → lists ≡ map (λ n. replicate n true) counts → counts ≡ map count_waiting lists
all_counted counts lists e = counts_all counts ∙ sym (ap (map count_waiting) e)

lists_all : (m : Mdp) (xs : List ℕ) → map (λ n. replicate n true) (map (λ s. length (choices_at m s)) xs) ≡ map (all_wait m) xs
lists_all m [] = refl
lists_all m (x ∷ xs) = ap (λ (rest : List (List Bool)). all_wait m x ∷ rest) (lists_all m xs)

pub lists_by_counts : (m : Mdp) (counts : List ℕ) (lists : List (List Bool)) (n : ℕ) → lists ≡ map (λ k. replicate k true) counts
    → counts ≡ map (λ s. length (choices_at m s)) (range_with_len 0 n) → lists ≡ map (all_wait m) (range_with_len 0 n)
lists_by_counts m counts lists n e f = e ∙ ap (map (λ k. replicate k true)) f ∙ lists_all m (range_with_len 0 n)

pub all_waiting : (m : Mdp) (lists : List (List Bool)) → lists ≡ map (all_wait m) (range_with_len 0 (states_of m)) → AreWaiting m (λ _. false) lists
all_waiting m lists e =
    let none : List Bool = [] in
    let row : (s : ℕ) → s < states_of m → get_or lists s [] ≡ all_wait m s = λ s h. ap (λ (x : List (List Bool)). get_or x s []) e
    ∙ get_or-map-range_with_len (all_wait m) 0 (states_of m) s s none h (omega arith) in
    record {
      count = ap length e ∙ length-map-range_with_len (all_wait m) 0 (states_of m);
      width = λ s h. ap length (row s h) ∙ length-replicate (length (choices_at m s)) true;
      at = λ s c h k. ap (λ (x : List Bool). get_or x c false) (row s h) ∙ get_or-replicate (length (choices_at m s)) c true false k
          ∙ sym (ap not (enters-never (row_at m s c) (λ _. false) (λ t. refl)));
    }

-- ---- one release

pub true-some : (row : List Bool) (c : ℕ) → get_or row c false ≡ true → list_any (λ b. b) row ≡ true
true-some [] c e = absurd (false≢true e)
true-some (b ∷ row) zero e = ap (λ x. x || list_any (λ b. b) row) e
true-some (b ∷ row) (suc c) e = ap (λ x. b || x) (true-some row c e) ∙ or-true b

pub some-in-range : (lists : List (List Bool)) (s : ℕ) → some_waits lists s ≡ true → s < length lists
some-in-range [] s e = absurd (false≢true e)
some-in-range (row ∷ lists) zero e = omega arith
some-in-range (row ∷ lists) (suc s) e = let l = some-in-range lists s e in omega (arith, l)

-- where each choice that waits in one list waits in another, some choice waits there too
some-fewer : (row more : List Bool) → ((c : ℕ) → get_or row c false ≡ true → get_or more c false ≡ true) → list_any (λ b. b) row ≡ true → list_any (λ b. b) more ≡ true
some-fewer row more f e = let w = list_any-at (λ (b : Bool). b) row false e in true-some more w.0 (f w.0 w.2)

count-positive : (row : List Bool) (c : ℕ) → get_or row c false ≡ true → 0 < count_waiting row
count-positive [] c e = absurd (false≢true e)
count-positive (b ∷ row) zero e =
    let a = sum_by-cons (λ (x : Bool). cond x 1 0) b row in
    let one : cond {A = ℕ} b 1 0 ≡ 1 = ap (λ x. cond {A = ℕ} x 1 0) e in
    omega (arith, a, one)
count-positive (b ∷ row) (suc c) e =
    let a = sum_by-cons (λ (x : Bool). cond x 1 0) b row in
    let rest = count-positive row c e in
    omega (arith, a, rest)

in-row : (row : List Bool) (c : ℕ) → get_or row c false ≡ true → c < length row
in-row [] c e = absurd (false≢true e)
in-row (b ∷ row) zero e = omega arith
in-row (b ∷ row) (suc c) e = let l = in-row row c e in omega (arith, l)

-- the count is 0 where no choice waits
count-zero : (row : List Bool) → (count_waiting row == 0) ≡ not (list_any (λ b. b) row)
count-zero [] = refl
count-zero (true ∷ row) =
    let a = sum_by-cons (λ (x : Bool). cond x 1 0) true row in
    ne_eqb (count_waiting (true ∷ row)) 0 (λ z. absurd (omega (arith, a, z)))
count-zero (false ∷ row) =
    let a = sum_by-cons (λ (x : Bool). cond x 1 0) false row in
    let same : count_waiting (false ∷ row) ≡ count_waiting row = omega (arith, a) in
    ap (λ k. k == 0) same ∙ count-zero row

cleared : (row : List Bool) (c d : ℕ) → d ≡ c → get_or (set row c false) d false ≡ false
cleared [] c d e = refl
cleared (b ∷ row) zero d e = rw e refl
cleared (b ∷ row) (suc c) d e = rw e (cleared row c c refl)

-- one choice fewer
count-released : (row : List Bool) (c : ℕ) → get_or row c false ≡ true → count_waiting (set row c false) ≡ count_waiting row - 1
count-released row c e =
    let s = sum_by-set (λ (x : Bool). cond x 1 0) row c false false (in-row row c e) in
    let one : cond {A = ℕ} (get_or row c false) 1 0 ≡ 1 = ap (λ x. cond {A = ℕ} x 1 0) e in
    omega (arith, s, one)

same-default : {X : Type 0} (xs : List X) (i : ℕ) (d e : X) → i < length xs → get_or xs i d ≡ get_or xs i e
same-default [] i d e h = absurd (omega arith)
same-default (x ∷ xs) zero d e h = refl
same-default (x ∷ xs) (suc i) d e h = same-default xs i d e (omega arith)

-- the count is that of state s as the code reads it, and choice c of s waits
module _ (lists : List (List Bool)) (counts : List ℕ) (s c count : ℕ) (counted : counts ≡ map count_waiting lists)
    (h : s < length lists) (is : waits lists s c ≡ true) (count_is : count ≡ get_or counts s count) where
  many : length counts ≡ length lists
  many = ap length counted ∙ length-map lists count_waiting

  count-here : count ≡ count_waiting (get_or lists s [])
  count-here =
      let none : List Bool = [] in
      count_is ∙ same-default counts s count 0 (omega (arith, h, many)) ∙ ap (λ (x : List ℕ). get_or x s 0) counted ∙ get_or-map count_waiting lists s none 0 h

  pub some_counted : 0 < count
  some_counted = let p = count-positive (get_or lists s []) c is in omega (arith, p, count-here)

  less : count - 1 ≡ count_waiting (set (get_or lists s []) c false)
  less = ap (λ k. k - 1) count-here ∙ sym (count-released (get_or lists s []) c is)

  pub counted_less : set counts s (count - 1) ≡ map count_waiting (set lists s (set (get_or lists s []) c false))
  counted_less =
      ap (λ (x : List ℕ). set x s (count - 1)) counted ∙ ap (λ k. set (map count_waiting lists) s k) less
      ∙ sym (map-set count_waiting lists s (set (get_or lists s []) c false))

  pub last_waited : (left : ℕ) → left ≡ get_or (set counts s (count - 1)) s left
      → (left == 0) ≡ (some_waits lists s && not (some_waits (set lists s (set (get_or lists s []) c false)) s))
  last_waited left f =
      let now : get_or (set lists s (set (get_or lists s []) c false)) s [] ≡ set (get_or lists s []) c false
      = get_or-set_at lists s s (set (get_or lists s []) c false) [] refl h in
      let left_is : left ≡ count - 1 = f ∙ get_or-set_at counts s s (count - 1) left refl (omega (arith, h, many)) in
      ap (λ k. k == 0) (left_is ∙ less) ∙ count-zero (set (get_or lists s []) c false)
      ∙ sym (ap (λ b. b && not (some_waits (set lists s (set (get_or lists s []) c false)) s)) (true-some (get_or lists s []) c is)
      ∙ ap (λ (x : List Bool). not (list_any (λ b. b) x)) now)

not_pair : (b p q : Bool) → p ≡ false → b ≡ (b && not ((q && p) || false))
not_pair true p true e = rw e refl
not_pair true p false e = refl
not_pair false p q e = refl

kept : (b p : Bool) → p ≡ false → b ≡ (b && not (p || false))
kept true p e = rw e refl
kept false p e = refl

gone : (b p : Bool) → p ≡ true → false ≡ (b && not (p || false))
gone true p e = rw e refl
gone false p e = refl

here : (s t c d : ℕ) → t ≡ s → d ≡ c → ((s == t) && (c == d)) ≡ true
here s t c d e f = and-both _ _ (eq-eqb s t (sym e)) (eq-eqb c d (sym f))

other_state : (s t c d : ℕ) → t ≢ s → ((s == t) && (c == d)) ≡ false
other_state s t c d e = ap (λ b. b && (c == d)) (ne_eqb s t (λ q. e (sym q)))

-- a choice that waits no longer
pub released_one : (lists : List (List Bool)) (s c : ℕ) → s < length lists → AreReleased lists (set lists s (set (get_or lists s []) c false)) (pair s c ∷ [])
released_one lists s c h =
    let row : List Bool = get_or lists s [] in
    let new : List (List Bool) = set lists s (set row c false) in
    let there : (t : ℕ) → t ≡ s → get_or new t [] ≡ set row c false = λ t e. get_or-set_at lists s t (set row c false) [] e h in
    let apart : (t : ℕ) → t ≢ s → get_or new t [] ≡ get_or lists t [] = λ t e. get_or-set_other lists s t (set row c false) [] e in
    record {
      count = length-set lists s (set row c false);
      width = λ t. elim (cases_eq t s) [
        | inl e ↦ ap length (there t e) ∙ length-set row c false ∙ ap (λ k. length (get_or lists k [])) (sym e)
        | inr e ↦ ap length (apart t e)
      ];
      at = λ t d. elim (cases_eq t s) [
        | inl e ↦ ap (λ (x : List Bool). get_or x d false) (there t e) ∙ elim (cases_eq d c) [
          | inl f ↦ cleared row c d f ∙ gone (waits lists t d) ((s == t) && (c == d)) (here s t c d e f)
          | inr f ↦ get_or-set_other row c d false false f ∙ ap (λ k. waits lists k d) (sym e)
              ∙ not_pair (waits lists t d) (c == d) (s == t) (ne_eqb c d (λ q. f (sym q)))
        ]
        | inr e ↦ ap (λ (x : List Bool). get_or x d false) (apart t e) ∙ kept (waits lists t d) ((s == t) && (c == d)) (other_state s t c d e)
      ];
    }

-- a choice that doesn't wait anyway
pub released_before : (lists : List (List Bool)) (s c : ℕ) → waits lists s c ≡ false → AreReleased lists lists (pair s c ∷ [])
released_before lists s c not_waiting = record {
  count = refl;
  width = λ t. refl;
  at = λ t d. elim (cases_eq t s) [
    | inl e ↦ elim (cases_eq d c) [
      | inl f ↦ (let w : waits lists t d ≡ false = ap (λ k. waits lists k d) e ∙ ap (λ k. waits lists s k) f ∙ not_waiting in
          w ∙ sym (ap (λ b. b && not (((s == t) && (c == d)) || false)) w))
      | inr f ↦ not_pair (waits lists t d) (c == d) (s == t) (ne_eqb c d (λ q. f (sym q)))
    ]
    | inr e ↦ kept (waits lists t d) ((s == t) && (c == d)) (other_state s t c d e)
  ];
}

-- ---- releases one after the other

no-pairs : (b : Bool) → (b && not false) ≡ b
no-pairs true = refl
no-pairs false = refl

after-both : (b p q : Bool) → ((b && not p) && not q) ≡ (b && not (p || q))
after-both true true q = refl
after-both true false q = refl
after-both false p q = refl

pub one-of-append : (xs ys : List Pred) (s c : ℕ) → is_one_of (xs ++ ys) s c ≡ (is_one_of xs s c || is_one_of ys s c)
one-of-append xs ys s c = list_any-append (λ p. (p.state == s) && (p.choice == c)) xs ys

released_none : (lists : List (List Bool)) → AreReleased lists lists []
released_none lists = record { count = refl; width = λ s. refl; at = λ s c. sym (no-pairs (waits lists s c)) }

released_more : (a b c : List (List Bool)) (xs ys zs : List Pred) → AreReleased a b xs → AreReleased b c ys → zs ≡ xs ++ ys → AreReleased a c zs
released_more a b c xs ys zs f g e = record {
  count = g.count ∙ f.count;
  width = λ s. g.width s ∙ f.width s;
  at = λ s d.
      g.at s d ∙ ap (λ w. w && not (is_one_of ys s d)) (f.at s d) ∙ after-both (waits a s d) (is_one_of xs s d) (is_one_of ys s d)
      ∙ ap (λ o. waits a s d && not o) (sym (ap (λ (x : List Pred). is_one_of x s d) e ∙ one-of-append xs ys s d));
}

-- a state some of whose choices wait after a release had one that waited before
waited-before : (old new : List (List Bool)) (pairs : List Pred) → AreReleased old new pairs → (s : ℕ) → some_waits new s ≡ true → some_waits old s ≡ true
waited-before old new pairs r s e = some-fewer (get_or new s []) (get_or old s []) (λ c w. and-left (waits old s c) (not (is_one_of pairs s c)) (sym (r.at s c) ∙ w)) e

none_met : (b n w : Bool) → b ≡ (b || (n && (w && not w)))
none_met true n w = refl
none_met false true true = refl
none_met false true false = refl
none_met false false w = refl

pub met_none : (lists : List (List Bool)) (ranks : List (Option ℕ)) (list : List ℕ) → AreMet lists lists [] ranks list list
met_none lists ranks list = record { released = released_none lists; listed = λ s. none_met (is_among s list) (is_none (rank_at ranks s)) (some_waits lists s) }

met_both : (b n x y z : Bool) → (y ≡ true → x ≡ true) → (z ≡ true → y ≡ true) → ((b || (n && (x && not y))) || (n && (y && not z))) ≡ (b || (n && (x && not z)))
met_both true n x y z f g = refl
met_both false false x y z f g = refl
met_both false true x true true f g = ap (λ w. (w && false) || false) (f refl) ∙ sym (ap (λ w. w && false) (f refl))
met_both false true x true false f g = ap (λ w. (w && false) || true) (f refl) ∙ sym (ap (λ w. w && true) (f refl))
met_both false true x false true f g = absurd (false≢true (g refl))
met_both false true true false false f g = refl
met_both false true false false false f g = refl

pub met_more : (a b c : List (List Bool)) (xs ys zs : List Pred) (ranks : List (Option ℕ)) (al bl cl : List ℕ) → AreMet a b xs ranks al bl
    → AreMet b c ys ranks bl cl → zs ≡ xs ++ ys → AreMet a c zs ranks al cl
met_more a b c xs ys zs ranks al bl cl f g e = record {
  released = released_more a b c xs ys zs f.released g.released e;
  listed = λ s.
      g.listed s ∙ ap (λ l. l || (is_none (rank_at ranks s) && (some_waits b s && not (some_waits c s)))) (f.listed s)
      ∙ met_both (is_among s al) (is_none (rank_at ranks s)) (some_waits a s) (some_waits b s) (some_waits c s) (waited-before a b xs f.released s) (waited-before b c ys g.released s);
}

-- a release leaves the other states as they are
other-waits : (old new : List (List Bool)) (x c s : ℕ) → AreReleased old new (pair x c ∷ []) → s ≢ x → some_waits new s ≡ some_waits old s
other-waits old new x c s r other =
    same_truth (some_waits new s) (some_waits old s) (waited-before old new (pair x c ∷ []) r s)
    (some-fewer (get_or old s []) (get_or new s []) (λ d w. r.at s d ∙ ap (λ b. waits old s d && not ((b && (c == d)) || false)) (ne_eqb x s (λ q. other (sym q))) ∙ no-pairs (waits old s d) ∙ w))

none_left : (n w : Bool) → false ≡ (n && (w && not w))
none_left true true = refl
none_left true false = refl
none_left false w = refl

-- the state of a released choice is added where it has no rank and this was the last choice that waited
pub met_one : (old new : List (List Bool)) (x c : ℕ) (ranks : List (Option ℕ)) (list more : List ℕ) → AreReleased old new (pair x c ∷ [])
    → ((s : ℕ) → is_among s more ≡ (is_among s list || ((x == s) && (is_none (rank_at ranks x) && (some_waits old x && not (some_waits new x))))))
    → AreMet old new (pair x c ∷ []) ranks list more
met_one old new x c ranks list more r added = record {
  released = r;
  listed = λ s. added s ∙ ap (λ b. is_among s list || b) (elim (cases_eq s x) [
    | inl same ↦ ap (λ b. b && (is_none (rank_at ranks x) && (some_waits old x && not (some_waits new x)))) (eq-eqb x s (sym same))
        ∙ ap (λ j. is_none (rank_at ranks j) && (some_waits old j && not (some_waits new j))) (sym same)
    | inr other ↦
        ap (λ b. b && (is_none (rank_at ranks x) && (some_waits old x && not (some_waits new x)))) (ne_eqb x s (λ q. other (sym q))) ∙ none_left (is_none (rank_at ranks s)) (some_waits old s)
        ∙ ap (λ w. is_none (rank_at ranks s) && (some_waits old s && not w)) (sym (other-waits old new x c s r other))
  ]);
}

-- with the answers of the code
pub met_push : (old new : List (List Bool)) (x c : ℕ) (ranks : List (Option ℕ)) (list more : List ℕ) → AreReleased old new (pair x c ∷ [])
    → (some_waits old x && not (some_waits new x)) ≡ true → is_none (rank_at ranks x) ≡ true → more ≡ list ++ x ∷ []
    → AreMet old new (pair x c ∷ []) ranks list more
met_push old new x c ranks list more r last none e =
    met_one old new x c ranks list more r (λ s. ap (is_among s) e ∙ among-append s list (x ∷ [])
    ∙ ap (λ b. is_among s list || b) (or-false (x == s) ∙ sym (ap (λ b. (x == s) && b) (and-both _ _ none last) ∙ and-true (x == s))))

pub met_skip : (old new : List (List Bool)) (x c : ℕ) (ranks : List (Option ℕ)) (list : List ℕ) → AreReleased old new (pair x c ∷ [])
    → (is_none (rank_at ranks x) && (some_waits old x && not (some_waits new x))) ≡ false → AreMet old new (pair x c ∷ []) ranks list list
met_skip old new x c ranks list r not_met =
    met_one old new x c ranks list list r (λ s. sym (ap (λ b. is_among s list || ((x == s) && b)) not_met ∙ ap (λ b. is_among s list || b) (and-false (x == s)) ∙ or-false (is_among s list)))

-- ---- where the choices stand

pub within_now : (old now : List (List Bool)) (done pairs : List Pred) → AreReleased old now done → AreWithin old pairs → AreWithin now pairs
within_now old now done pairs r w s c e = let l = w s c e in let k = r.width s in (omega (arith, l.0, r.count), omega (arith, l.1, k))

pub within_at : (lists : List (List Bool)) (xs : List Pred) (i : ℕ) (d : Pred) → AreWithin lists xs → i < length xs
    → (Pred.state (get_or xs i d) < length lists) × (Pred.choice (get_or xs i d) < length (get_or lists (Pred.state (get_or xs i d)) []))
within_at lists xs i d w h = w (Pred.state (get_or xs i d)) (Pred.choice (get_or xs i d))
    (list_any-by (λ (p : Pred). (p.state == Pred.state (get_or xs i d)) && (p.choice == Pred.choice (get_or xs i d))) xs d i h
    (and-both _ _ (eq-eqb (Pred.state (get_or xs i d)) (Pred.state (get_or xs i d)) refl) (eq-eqb (Pred.choice (get_or xs i d)) (Pred.choice (get_or xs i d)) refl)))

pub within_part : (lists : List (List Bool)) (preds : List (List Pred)) (layer : List ℕ) (i : ℕ) → i < length layer → AreWithin lists (leading_to preds layer)
    → AreWithin lists (get_or preds (get_or layer i 0) [])
within_part lists preds [] i h w = λ s c e. absurd (omega arith)
within_part lists preds (t ∷ layer) zero h w = λ s c e. w s c (one-of-append (get_or preds t []) (leading_to preds layer) s c ∙ ap (λ b. b || is_one_of (leading_to preds layer) s c) e)
within_part lists preds (t ∷ layer) (suc i) h w =
    within_part lists preds layer i (omega arith)
    (λ s c e. w s c (one-of-append (get_or preds t []) (leading_to preds layer) s c ∙ ap (λ b. is_one_of (get_or preds t []) s c || b) e ∙ or-true (is_one_of (get_or preds t []) s c)))

pub leading-more : {A : Type 0} → (lists : List (List A)) (layer : List ℕ) (i : ℕ) → i < length layer
    → flat_map (λ t. get_or lists t []) (take (i + 1) layer) ≡ flat_map (λ t. get_or lists t []) (take i layer) ++ get_or lists (get_or layer i 0) []
leading-more {A} lists layer i h =
    ap (flat_map (λ t. get_or lists t [])) (take_more layer i 0 h) ∙ flat_map-append (λ t. get_or lists t []) (take i layer) (get_or layer i 0 ∷ [])
    ∙ ap (λ (x : List A). flat_map (λ t. get_or lists t []) (take i layer) ++ x) (append-nil (get_or lists (get_or layer i 0) []))
