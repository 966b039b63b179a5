-- Changes of a policy that are collected one node after another.
use Rattle.std.proofs.Common.{◌≡◌, ◌≢◌, inl, inr, ℕ, zero, suc, ◌+◌, ◌<◌, ◌≤◌, ◌==◌, false, List, [], ◌∷◌, ◌++◌, length, map}
use Rattle.std.proofs.Common.{slice_index, get_or, Option, Some, None, Result, Ok, Err, if◌then◌else◌, refl, sym, ◌∙◌, ap, subst, arith, eq-eqb, length-append}
use Rattle.std.proofs.{lemmas.Bool.{cases_eq, ne_eqb}, lemmas.List.{get_or-map, get_or_append_left}, lemmas.List.Elements.{All-append, All-cons}}
use Rattle.std.proofs.{lemmas.List.FromFn.{map-range_with_len_more}, Math.Seq.{get_or-append_seam}}
use Rattle.std.specs.List.{All, range_with_len}
use Rattle.mdp_rows.proofs.Flat.RowsGrown.{all_one}
use Rattle.mdp_rows.specs.{Preds.{is_among}, declared.preds.Pred.{Pred}}
use Rattle.mdp_elim.proofs.Others.{not-among}
use Rattle.mdp_math.proofs.Numbers.{last_or}
use Rattle.mdp_policy_iteration.specs.{Places.{Place, up_to}, Changes.{change_at, spread, Ascend, nodes_of}}
use Rattle.mdp_policy_iteration.proofs.Answering.{up_to-more, up_to-refused}

-- ---- the choice of a node among changes

abbrev pub change : ℕ → ℕ → Pred
change s c = record { state = s; choice = c }

pub change_at-none : (s : ℕ) (changes : List Pred) → All (λ x. x.state ≢ s) changes → change_at changes s ≡ None
change_at-none s [] h = refl
change_at-none s (x ∷ changes) h =
    ap (λ b. if b then Some x.choice else change_at changes s) (ne_eqb x.state s (h 0 x (omega arith))) ∙ change_at-none s changes (λ k d l. h (suc k) d (omega arith))

pub change_at-other : (s : ℕ) (changes : List Pred) (y : Pred) → y.state ≢ s → change_at (changes ++ y ∷ []) s ≡ change_at changes s
change_at-other s [] y h = ap (λ b. if b then Some y.choice else None) (ne_eqb y.state s h)
change_at-other s (x ∷ changes) y h = ap (λ (o : Option ℕ). if x.state == s then Some x.choice else o) (change_at-other s changes y h)

pub change_at-last : (s : ℕ) (changes : List Pred) (y : Pred) → All (λ x. x.state ≢ s) changes → y.state ≡ s → change_at (changes ++ y ∷ []) s ≡ Some y.choice
change_at-last s [] y h e = ap (λ b. if b then Some y.choice else None) (eq-eqb y.state s e)
change_at-last s (x ∷ changes) y h e =
    ap (λ b. if b then Some x.choice else change_at (changes ++ y ∷ []) s) (ne_eqb x.state s (h 0 x (omega arith)))
    ∙ change_at-last s changes y (λ k d l. h (suc k) d (omega arith)) e

-- ---- numbers that ascend

pub nodes_of-at : (changes : List Pred) (k : ℕ) (d : Pred) → k < length changes → slice_index (nodes_of changes) k ≡ (get_or changes k d).state
nodes_of-at changes k d l = get_or-map (λ (x : Pred). x.state) changes k d 0 l

pub length-nodes_of : (changes : List Pred) → length (nodes_of changes) ≡ length changes
length-nodes_of [] = refl
length-nodes_of (x ∷ changes) = ap suc (length-nodes_of changes)

pub nodes_of-append : (changes : List Pred) (y : Pred) → nodes_of (changes ++ y ∷ []) ≡ nodes_of changes ++ y.state ∷ []
nodes_of-append [] y = refl
nodes_of-append (x ∷ changes) y = ap (λ (xs : List ℕ). x.state ∷ xs) (nodes_of-append changes y)

ascend-append : (xs : List ℕ) (n : ℕ) → Ascend xs → All (λ x. x < n) xs → Ascend (xs ++ n ∷ [])
ascend-append xs n h below i j l m =
    let len = length-append xs (n ∷ []) in
    let left : get_or (xs ++ n ∷ []) i 0 ≡ get_or xs i 0 = get_or_append_left xs (n ∷ []) 0 i (omega arith) in
    elim (last_or (length xs) j (omega arith)) as (λ _. get_or (xs ++ n ∷ []) i 0 < get_or (xs ++ n ∷ []) j 0) [
      | inl q ↦
          (let right : get_or (xs ++ n ∷ []) j 0 ≡ n = ap (λ k. get_or (xs ++ n ∷ []) k 0) q ∙ get_or-append_seam xs n [] 0 in
          let b = below i 0 (omega arith) in omega arith)
      | inr k ↦
          (let right : get_or (xs ++ n ∷ []) j 0 ≡ get_or xs j 0 = get_or_append_left xs (n ∷ []) 0 j k in
          let b = h i j l k in omega arith)
    ]

nodes_below : (changes : List Pred) (n : ℕ) → All (λ x. x.state < n) changes → All (λ s. s < n) (nodes_of changes)
nodes_below [] n h = λ k d l. absurd (omega arith)
nodes_below (x ∷ changes) n h = All-cons (λ s. s < n) x.state (nodes_of changes) (h 0 x (omega arith)) (nodes_below changes n (λ k d l. h (suc k) d (omega arith)))

-- ---- what is told of each number

pub up_to-all : {A R : Type 0} (f : ℕ → Result A R) (g : ℕ → A) (n : ℕ) → ((s : ℕ) → s < n → f s ≡ Ok (g s)) → up_to f n ≡ Ok (map g (range_with_len 0 n))
up_to-all f g zero h = refl
up_to-all f g (suc n) h =
    up_to-more f n (suc n) (map g (range_with_len 0 n)) (g n) (up_to-all f g n (λ s l. h s (omega arith))) (h n (omega arith)) refl
    ∙ ap Ok (sym (ap (λ k. map g (range_with_len 0 k)) (let e : suc n ≡ n + 1 = omega arith in e) ∙ map-range_with_len_more g 0 n n (omega arith)))

-- ---- the changes of the first i of these nodes, where no other node has one

module _ (f : ℕ → Result (Option ℕ) Place) (n : ℕ) (nodes : List ℕ) (Each : Pred → Type 0) where
  -- s is none of the nodes from i on
  abbrev IsPassed : ℕ → ℕ → Type 0
  IsPassed i s = (k : ℕ) → i ≤ k → k < length nodes → slice_index nodes k ≢ s

  pub record AreCollected (i : ℕ) (changes : List Pred) : Type 0 where
    pub at : (s : ℕ) → s < n → IsPassed i s → f s ≡ Ok (change_at changes s)
    pub below : (k : ℕ) → i ≤ k → k < length nodes → All (λ x. x.state < slice_index nodes k) changes
    pub ascend : Ascend (nodes_of changes)
    pub each : All Each changes

  pub collected-none : ((s : ℕ) → s < n → is_among s nodes ≡ false → f s ≡ Ok None) → AreCollected 0 []
  collected-none others = record {
    at = λ s l h. others s l (not-among s nodes (λ k m. h k (omega arith) m));
    below = λ k l m j d r. absurd (omega arith);
    ascend = λ i j l m. absurd (omega arith);
    each = λ j d r. absurd (omega arith);
  }

  module _ (ascend : Ascend nodes) (in_range : All (λ s. s < n) nodes) (i : ℕ) (changes : List Pred) (so_far : AreCollected i changes) (l : i < length nodes) where
    apart : All (λ x. x.state ≢ slice_index nodes i) changes
    apart j d r = λ e. (let h = so_far.below i (omega arith) l j d r in omega arith)

    at_next : (after : List Pred) → f (slice_index nodes i) ≡ Ok (change_at after (slice_index nodes i))
        → ((s : ℕ) → s ≢ slice_index nodes i → change_at after s ≡ change_at changes s) → (s : ℕ) → s < n → IsPassed (i + 1) s → f s ≡ Ok (change_at after s)
    at_next after here there s m h = elim (cases_eq s (slice_index nodes i)) [
      | inl same ↦ subst (λ s. f s ≡ Ok (change_at after s)) (sym same) here
      | inr other ↦ so_far.at s m (λ k a b. elim (cases_eq k i) [
        | inl same ↦ (λ e. other (sym e ∙ ap (slice_index nodes) same))
        | inr more ↦ h k (omega arith) b
      ]) ∙ ap Ok (sym (there s other))
    ]

    pub collected-kept : f (slice_index nodes i) ≡ Ok None → AreCollected (i + 1) changes
    collected-kept e = record {
      at = at_next changes (e ∙ ap Ok (sym (change_at-none (slice_index nodes i) changes apart))) (λ s h. refl);
      below = λ k a b. so_far.below k (omega arith) b;
      ascend = so_far.ascend;
      each = so_far.each;
    }

    pub collected-more : (c : ℕ) → f (slice_index nodes i) ≡ Ok (Some c) → Each (change (slice_index nodes i) c) → AreCollected (i + 1) (changes ++ change (slice_index nodes i) c ∷ [])
    collected-more c e is =
        let s = slice_index nodes i in
        record {
          at = at_next (changes ++ change s c ∷ []) (e ∙ ap Ok (sym (change_at-last s changes (change s c) apart refl)))
              (λ t h. change_at-other t changes (change s c) (λ q. h (sym q)));
          below = λ k a b. All-append (λ x. x.state < slice_index nodes k) changes (change s c ∷ []) (so_far.below k (omega arith) b)
              (all_one (λ x. x.state < slice_index nodes k) (change s c) (ascend i k (omega arith) b));
          ascend = subst Ascend (sym (nodes_of-append changes (change s c))) (ascend-append (nodes_of changes) s so_far.ascend (nodes_below changes s (so_far.below i (omega arith) l)));
          each = All-append Each changes (change s c ∷ []) so_far.each (all_one Each (change s c) is);
        }

    pub collected-refused : (w : Place) → f (slice_index nodes i) ≡ Err w → up_to f n ≡ Err w
    collected-refused w e =
        let s = slice_index nodes i in
        let m = in_range i 0 l in
        up_to-refused f s n (map (change_at changes) (range_with_len 0 s)) w
        (up_to-all f (change_at changes) s (λ t h. so_far.at t (omega arith) (λ k a b q. (let u = not_before k a b in omega arith)))) e m
      where
        not_before : (k : ℕ) → i ≤ k → k < length nodes → slice_index nodes i ≤ slice_index nodes k
        not_before k a b = elim (cases_eq k i) [
          | inl same ↦ (let e : slice_index nodes k ≡ slice_index nodes i = ap (slice_index nodes) same in omega arith)
          | inr other ↦ (let h = ascend i k (omega arith) b in omega arith)
        ]

  pub collected-all : (changes : List Pred) → AreCollected (length nodes) changes → up_to f n ≡ Ok (spread n changes)
  collected-all changes c = up_to-all f (change_at changes) n (λ s l. c.at s l (λ k a b. absurd (omega arith)))
