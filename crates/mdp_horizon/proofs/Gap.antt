-- Where no row is wide, the covering and the following column come near.
use Rattle.std.proofs.Common.{◌≡◌, ◌∙◌, ℕ, zero, suc, ◌+◌, ◌*◌, ◌<◌, ◌≤◌, ◌^◌, Bool, true, false, if◌then◌else◌, List, [], ◌∷◌, map, length, Option, Some, None, unwrap_or}
use Rattle.std.proofs.{Common.{refl, sym, ap, subst, arith, ℤ, pos, neg_ℤ, int_lt, ◌+ℤ◌, ◌<ℤ◌, ◌≤ℤ◌}, lemmas.Int.{ints}, lemmas.List.{get_or-map}}
use Rattle.std.proofs.Math.Nat.{one-le-pow, mul-le-mul_right}
use Rattle.mdp_math.specs.{Rational.{ℚ, of_int, ratio, ◌+ℚ◌, ◌-ℚ◌, ◌*ℚ◌, neg_ℚ, ◌≤ℚ◌, ◌<ℚ◌}, Written.{◌>>=◌}}
use Rattle.mdp_math.proofs.{Laws.{of_int-+ℤ, is_of_int, rat_ring}, Linear.{linear, linear_lt, known}}
use Rattle.mdp_math.proofs.{Order.{0ℚ, 1ℚ, of_int-le, is_le, ratio-le, ≤ℚ_of_lt, sub-pos, positive, strict_to}, Ring.{◌⊕◌, ◌⊗◌, ⊖, lit, ring}}
use Rattle.mdp_math.proofs.{SumsAt.{sum_at-sum_of, EachAt_mono}, Whole.{of_nat-add}, Written.{narrow_ℚ-some}}
use Rattle.mdp_spec.specs.{Mdp.{Entry, Mdp, states_of, choices_at, choice_at, row_at}, Row.{IsRow, IsMdp}, Bounds.{reward_at}}
use Rattle.mdp_spec.proofs.Rows.{row_weigh, row_weigh-const, row_weigh-line, targets_at}
use Rattle.mdp_rows.specs.{declared.dir.Dir.{Dir}, declared.dir.Dir.TheVariants.{Max, Min}}
use Rattle.mdp_horizon.specs.{Objective.{Objective, earns}, Whole.{in_units, whole_at, rounded, farther}}
use Rattle.mdp_horizon.specs.Scaled.{Scaled, scaled, total_of, divided, trivial, or_else, rounded_sum}
use Rattle.mdp_horizon.specs.{Columns.{ended, scaled_choice, cover, follow, shown, Bounds, bounds_of}, Exact.{HasRoom}}
use Rattle.mdp_horizon.specs.Gap.{NoneIsWide, IsNear, AreNear, MeetWithin, AreNearBounds}
use Rattle.mdp_horizon.proofs.{Directions.{row_sum-no_better}, Both.{SumsAreBoth, next_both, ended_both}, ExactSums.{if_true}, Rounding.{of_int-neg}}
use Rattle.mdp_horizon.proofs.{StepsLemmas.{cover_states, follow_states}, Totals.{number_at, weighed, IsRounded, divided-is}}
use Rattle.mdp_horizon.proofs.Units.{unit, in_units-is, no_better_in_units}

-- ---- whole numbers

same_near : (dir : Dir) (u : ℕ) (k : ℤ) → AreNear dir u k k
same_near Max u k = (omega (arith, ints), omega (arith, ints))
same_near Min u k = (omega (arith, ints), omega (arith, ints))

le_of_test : (x y : ℤ) → int_lt x y ≡ true → x ≤ℤ y
le_of_test x y e = grind (arith, ints)

ge_of_test : (x y : ℤ) → int_lt x y ≡ false → y ≤ℤ x
ge_of_test x y e = grind (arith, ints)

greater_near : (u : ℕ) (k j a b : ℤ) (s t : Bool) → int_lt k a ≡ s → int_lt j b ≡ t → IsNear u j k → IsNear u b a → IsNear u (if t then b else j) (if s then a else k)
greater_near u k j a b true true d e g h = h
greater_near u k j a b false false d e g h = g
greater_near u k j a b true false d e g h =
    let p = le_of_test k a d in let q = ge_of_test j b e in let g0 = g.0 in let h1 = h.1 in (omega (arith, ints), omega (arith, ints))
greater_near u k j a b false true d e g h =
    let p = ge_of_test k a d in let q = le_of_test j b e in let h0 = h.0 in let g1 = g.1 in (omega (arith, ints), omega (arith, ints))

less_near : (u : ℕ) (k j a b : ℤ) (s t : Bool) → int_lt a k ≡ s → int_lt b j ≡ t → IsNear u k j → IsNear u a b → IsNear u (if s then a else k) (if t then b else j)
less_near u k j a b true true d e g h = h
less_near u k j a b false false d e g h = g
less_near u k j a b true false d e g h =
    let p = le_of_test a k d in let q = ge_of_test b j e in let g0 = g.0 in let h1 = h.1 in (omega (arith, ints), omega (arith, ints))
less_near u k j a b false true d e g h =
    let p = ge_of_test a k d in let q = le_of_test b j e in let h0 = h.0 in let g1 = g.1 in (omega (arith, ints), omega (arith, ints))

farther_near : (dir : Dir) (u : ℕ) (k j a b : ℤ) → AreNear dir u k j → AreNear dir u a b → AreNear dir u (farther dir k a) (farther dir j b)
farther_near Max u k j a b g h = greater_near u k j a b (int_lt k a) (int_lt j b) refl refl g h
farther_near Min u k j a b g h = less_near u k j a b (int_lt a k) (int_lt b j) refl refl g h

-- ---- one choice

-- two columns of n values, near at each state
abbrev AreNearEach : ℕ → ℕ → List (Option ℤ) → List (Option ℤ) → Type 0
AreNearEach n u low high = (t : ℕ) → t < n → (a : ℤ) × (b : ℤ) × (whole_at low t ≡ Some a) × (whole_at high t ≡ Some b) × IsNear u a b

number_is : (column : List (Option ℤ)) (t : ℕ) (k : ℤ) → whole_at column t ≡ Some k → number_at column t ≡ of_int k
number_is column t k e = ap (λ (o : Option ℤ). of_int (unwrap_or o (pos 0))) e

at_most : (n : ℕ) (row : List Entry) (low : List (Option ℤ)) (z : ℕ → ℚ) → IsRow n row → ((t : ℕ) → t < n → number_at low t ≤ℚ z t) → weighed low row ≤ℚ row_weigh z row
at_most n row low z known_ h =
    subst (λ (x : ℚ). x ≤ℚ row_weigh z row) (sum_at-sum_of row (λ y. y.prob *ℚ number_at low y.target))
    (row_sum-no_better Max n row (λ e y. number_at low y.target) z known_
    (EachAt_mono row (λ e y. y.target < n) (λ e y. number_at low y.target ≤ℚ z y.target) (λ e y l. h y.target l) (targets_at n row known_)))

-- an average of the lower column and what is added to each
raised : (n : ℕ) (row : List Entry) (low : List (Option ℤ)) (c : ℚ) → IsRow n row
    → row_weigh (λ v. 1ℚ *ℚ number_at low v +ℚ (0ℚ -ℚ neg_ℚ c)) row ≡ 1ℚ *ℚ weighed low row +ℚ (0ℚ -ℚ neg_ℚ c)
raised n row low c known_ =
    row_weigh-line n row 1ℚ (neg_ℚ c) (number_at low) (λ v. 0ℚ) known_
    ∙ ap (λ (x : ℚ). 1ℚ *ℚ weighed low row +ℚ (x -ℚ neg_ℚ c)) (row_weigh-const n row 0ℚ known_)

module _ (n u : ℕ) (row : List Entry) (low high : List (Option ℤ)) (known_ : IsRow n row) (near : AreNearEach n u low high) where
  weighed_up : weighed low row ≤ℚ weighed high row
  weighed_up =
      at_most n row low (number_at high) known_
      (λ t l. let p = near t l in
      subst (λ (x : ℚ). x ≤ℚ number_at high t) (sym (number_is low t p.0 p.2)) (subst (λ (y : ℚ). of_int p.0 ≤ℚ y) (sym (number_is high t p.1 p.3)) (of_int-le p.0 p.1 p.4.0)))

  weighed_near : weighed high row ≤ℚ weighed low row +ℚ of_int (pos u)
  weighed_near =
      linear 3 (λ l h u. h) (λ l h u. l ⊕ u) (λ l h u. known h (lit (pos 1) ⊗ l ⊕ (lit (pos 0) ⊕ ⊖ (⊖ u))) ∷ []) refl (weighed low row) (weighed high row) (of_int (pos u))
      (subst (λ (x : ℚ). weighed high row ≤ℚ x) (raised n row low (of_int (pos u)) known_)
      (at_most n row high (λ v. 1ℚ *ℚ number_at low v +ℚ (0ℚ -ℚ neg_ℚ (of_int (pos u)))) known_
      (λ t l. let p = near t l in
      linear 3 (λ l h u. h) (λ l h u. lit (pos 1) ⊗ l ⊕ (lit (pos 0) ⊕ ⊖ (⊖ u))) (λ l h u. known h (l ⊕ u) ∷ []) refl (number_at low t) (number_at high t) (of_int (pos u))
      (subst (λ (x : ℚ). x ≤ℚ number_at low t +ℚ of_int (pos u)) (sym (number_is high t p.1 p.3))
      (subst (λ (x : ℚ). of_int p.1 ≤ℚ x +ℚ of_int (pos u)) (sym (number_is low t p.0 p.2))
      (subst (λ (x : ℚ). of_int p.1 ≤ℚ x) (of_int-+ℤ p.0 (pos u)) (of_int-le p.1 (p.0 +ℤ pos u) p.4.1)))))))

-- with room the rounded sum is the divided one
divided_with_room : (side : Dir) (column : List (Option ℤ)) (x : Scaled) → HasRoom column x → (k : ℤ) × (divided side column x ≡ Some k) × (rounded_sum side column x ≡ Some k)
unfolding rounded_sum
divided_with_room side column x room =
    let test : int_lt (pos 0) x.scale.common ≡ true = grind (arith, ints, room.0) in
    let is : divided side column x ≡ Some (rounded side room.1.0 x.scale.common) =
    if_true (int_lt (pos 0) x.scale.common) (total_of column x.scale.start x.terms >>= (λ n. Some (rounded side n x.scale.common))) None test
    ∙ ap (λ (o : Option ℤ). o >>= (λ n. let r : Option ℤ = Some (rounded side n x.scale.common) in r)) room.1.1
    in
    (rounded side room.1.0 x.scale.common, is, ap (λ (o : Option ℤ). or_else o (trivial side column x)) is)

-- whole numbers from numbers
pub whole_le : (a b : ℤ) → of_int a ≤ℚ of_int b → a ≤ℤ b
whole_le a b h = let p = is_le _ _ a b 1 1 (is_of_int a) (is_of_int b) h in omega (arith, ints)

pub between_of : (a b : ℤ) (u : ℕ) → of_int b <ℚ of_int a +ℚ (of_int (pos u) +ℚ of_int (pos 2)) → b ≤ℤ (a +ℤ pos (suc u))
between_of a b u h =
    let d : ℤ = (a +ℤ pos (u + 2)) +ℤ neg_ℤ b in
    let is : of_int d ≡ (of_int a +ℚ (of_int (pos u) +ℚ of_int (pos 2))) +ℚ neg_ℚ (of_int b) =
    of_int-+ℤ (a +ℤ pos (u + 2)) (neg_ℤ b)
    ∙ ap (λ (x : ℚ). x +ℚ of_int (neg_ℤ b)) (of_int-+ℤ a (pos (u + 2)) ∙ ap (λ (x : ℚ). of_int a +ℚ x) (of_nat-add u 2))
    ∙ ap (λ (x : ℚ). (of_int a +ℚ (of_int (pos u) +ℚ of_int (pos 2))) +ℚ x) (of_int-neg b)
    in
    let p : pos 0 <ℤ d = strict_to (of_int d) d 1 (is_of_int d)
    (positive (of_int d) (subst (λ (x : ℚ). 0ℚ <ℚ x) (sym is) (sub-pos (of_int b) (of_int a +ℚ (of_int (pos u) +ℚ of_int (pos 2))) h))) in
    omega (arith, ints)

-- sums over near columns, one rounded down and one up
rounded_near : (n u one : ℕ) (start : ℚ) (row : List Entry) (low high : List (Option ℤ)) → IsRow n row → AreNearEach n u low high
    → HasRoom low (scaled (pos one) start row) → HasRoom high (scaled (pos one) start row)
    → (a : ℤ) × (b : ℤ) × (rounded_sum Min low (scaled (pos one) start row) ≡ Some a) × (rounded_sum Max high (scaled (pos one) start row) ≡ Some b) × IsNear (suc u) a b
rounded_near n u one start row low high known_ near room_low room_high =
    let l = divided_with_room Min low (scaled (pos one) start row) room_low in
    let h = divided_with_room Max high (scaled (pos one) start row) room_high in
    let rl : IsRounded Min one start row low l.0 = divided-is Min one start row low l.0 l.1 in
    let rh : IsRounded Max one start row high h.0 = divided-is Max one start row high h.0 h.1 in
    let x : ℚ = of_int (pos one) *ℚ start in
    let wl : ℚ = weighed low row in
    let wh : ℚ = weighed high row in (
      l.0,
      h.0,
      l.2,
      h.2,
      (
        whole_le l.0 h.0
            (linear 5 (λ a b x l h. a) (λ a b x l h. b) (λ a b x l h. known a (x ⊕ l) ∷ known l h ∷ known (x ⊕ h) b ∷ []) refl (of_int l.0) (of_int h.0) x wl wh
            rl.beyond (weighed_up n u row low high known_ near) rh.beyond),
        between_of l.0 h.0 u
            (linear_lt 6 (λ a b x l h u. b) (λ a b x l h u. a ⊕ (u ⊕ lit (pos 2))) (λ a b x l h u. (a ⊕ lit (pos 1)) ⊕ ⊖ (x ⊕ l))
            (λ a b x l h u. known b ((x ⊕ h) ⊕ lit (pos 1)) ∷ known h (l ⊕ u) ∷ []) refl (of_int l.0) (of_int h.0) x wl wh (of_int (pos u))
            (sub-pos (x +ℚ wl) (of_int l.0 +ℚ 1ℚ) rl.close) (≤ℚ_of_lt (of_int h.0) ((x +ℚ wh) +ℚ 1ℚ) rh.close) (weighed_near n u row low high known_ near)),
      ),
    )

-- ---- all steps

module _ (one : ℕ) (m : Mdp) (o : Objective) (known_ : IsMdp m) where
  choice_near : (dir : Dir) (n u : ℕ) (s c : ℕ) → s < states_of m → c < length (choices_at m s) → ((t : ℕ) → t < states_of m → MeetWithin dir (pos one) m o n u t)
      → HasRoom (cover dir (pos one) m o n) (scaled_choice (pos one) o (choice_at m s c)) → HasRoom (follow dir (pos one) m o n) (scaled_choice (pos one) o (choice_at m s c))
      → SumsAreBoth dir (AreNear dir (suc u)) (cover dir (pos one) m o n) (follow dir (pos one) m o n) (scaled_choice (pos one) o (choice_at m s c))
  choice_near Max n u s c h l near room_cover room_follow =
      let r =
      rounded_near (states_of m) u one (earns m o s c) (row_at m s c) (follow Max (pos one) m o n) (cover Max (pos one) m o n) (known_.row s c h l)
      (λ t i. let p = near t i in (p.1, p.0, p.3, p.2, p.4)) room_follow room_cover
      in (r.1, r.0, r.3, r.2, r.4)
  choice_near Min n u s c h l near room_cover room_follow =
      let r =
      rounded_near (states_of m) u one (earns m o s c) (row_at m s c) (cover Min (pos one) m o n) (follow Min (pos one) m o n) (known_.row s c h l)
      (λ t i. let p = near t i in (p.0, p.1, p.2, p.3, p.4)) room_cover room_follow
      in (r.0, r.1, r.2, r.3, r.4)

  module _ (dir : Dir) where
    pub meet : (n : ℕ) → NoneIsWide dir (pos one) m o n → (s : ℕ) → s < states_of m → MeetWithin dir (pos one) m o n n s
    meet zero wide s h = ended_both dir (AreNear dir 0) (pos one) m o s h (same_near dir 0 (ended (pos one) o s))
    meet (suc n) wide s h =
        next_both dir (AreNear dir (suc n)) (farther_near dir (suc n)) (pos one) m o known_ n s h (λ k e. same_near dir (suc n) k)
        (λ c l. let room = wide n s c (omega arith) h l in choice_near dir n n s c h l (meet n (λ left s c l. wide left s c (omega arith))) room.0 room.1)

-- ---- as fractions

shown_is : (one : ℕ) (column : List (Option ℤ)) (s : ℕ) (k : ℤ) (x : ℚ) → s < length column → whole_at column s ≡ Some k
    → reward_at (map (shown (pos one)) column) s ≡ Some x → x ≡ in_units (pos one) k
shown_is one column s k x h e told =
    narrow_ℚ-some (in_units (pos one) k) x (sym told ∙ get_or-map (shown (pos one)) column s (Some (pos 0)) (Some 0ℚ) h ∙ ap (shown (pos one)) e)

units_add : (one : ℕ) (a c : ℤ) → 0 < one → in_units (pos one) (a +ℤ c) ≡ in_units (pos one) a +ℚ in_units (pos one) c
units_add one a c h =
    in_units-is one (a +ℤ c) h ∙ ap (λ (x : ℚ). x *ℚ unit one) (of_int-+ℤ a c)
    ∙ ring rat_ring 3 (λ a c u. (a ⊕ c) ⊗ u) (λ a c u. a ⊗ u ⊕ c ⊗ u) refl (of_int a) (of_int c) (unit one)
    ∙ sym (ap (λ (x : ℚ). x +ℚ in_units (pos one) c) (in_units-is one a h) ∙ ap (λ (x : ℚ). of_int a *ℚ unit one +ℚ x) (in_units-is one c h))

units_near : (one u : ℕ) (a b : ℤ) → 0 < one → b ≤ℤ (a +ℤ pos u) → in_units (pos one) b ≤ℚ in_units (pos one) a +ℚ ratio (pos u) one
units_near one u a b h l =
    subst (λ (x : ℚ). in_units (pos one) b ≤ℚ x) (units_add one a (pos u) h)
    (subst (λ (x : ℚ). x ≤ℚ in_units (pos one) (a +ℤ pos u)) (sym (in_units-is one b h)) (no_better_in_units Max one (of_int b) (a +ℤ pos u) h (of_int-le b (a +ℤ pos u) l)))

-- a lower and an upper column
shown_near : (one u : ℕ) (low high : List (Option ℤ)) (s : ℕ) (a b : ℤ) (x y : ℚ) → 0 < one → s < length low → s < length high
    → whole_at low s ≡ Some a → whole_at high s ≡ Some b → IsNear u a b
    → reward_at (map (shown (pos one)) low) s ≡ Some x → reward_at (map (shown (pos one)) high) s ≡ Some y → y ≤ℚ x +ℚ ratio (pos u) one
shown_near one u low high s a b x y above inside within e f near p q =
    subst (λ (x : ℚ). y ≤ℚ x +ℚ ratio (pos u) one) (sym (shown_is one low s a x inside e p))
    (subst (λ (y : ℚ). y ≤ℚ in_units (pos one) a +ℚ ratio (pos u) one) (sym (shown_is one high s b y within f q)) (units_near one u a b above near.1))

-- with n steps at most n units apart
pub units_apart : (dir : Dir) (one : ℕ) (m : Mdp) (o : Objective) (n s : ℕ) (low high : ℚ) → 0 < one → IsMdp m → NoneIsWide dir (pos one) m o n → s < states_of m
    → reward_at (Bounds.lower (bounds_of dir (pos one) m o n)) s ≡ Some low → reward_at (Bounds.upper (bounds_of dir (pos one) m o n)) s ≡ Some high
    → high ≤ℚ low +ℚ ratio (pos n) one
unfolding bounds_of
units_apart Max one m o n s low high above known_ wide h p q =
    let r = meet one m o known_ Max n wide s h in
    shown_near one n (follow Max (pos one) m o n) (cover Max (pos one) m o n) s r.1 r.0 low high above
    (omega (arith, follow_states Max (pos one) m o n)) (omega (arith, cover_states Max (pos one) m o n)) r.3 r.2 r.4 p q
units_apart Min one m o n s low high above known_ wide h p q =
    let r = meet one m o known_ Min n wide s h in
    shown_near one n (cover Min (pos one) m o n) (follow Min (pos one) m o n) s r.0 r.1 low high above
    (omega (arith, cover_states Min (pos one) m o n)) (omega (arith, follow_states Min (pos one) m o n)) r.2 r.3 r.4 p q

-- so at most 1/u apart, where the unit is fine enough
pub near_by_units : (u one n k : ℕ) (low high : ℚ) → 0 < u → 0 < one → k ≤ n → n * u ≤ one → high ≤ℚ low +ℚ ratio (pos k) one → high ≤ℚ low +ℚ ratio (pos 1) u
near_by_units u one n k low high some above l fine apart =
    let less : ratio (pos k) one ≤ℚ ratio (pos 1) u = ratio-le k 1 one u above some (let a = mul-le-mul_right u l in omega (arith, a, fine)) in
    linear 4 (λ x y a b. y) (λ x y a b. x ⊕ b) (λ x y a b. known y (x ⊕ a) ∷ known a b ∷ []) refl low high (ratio (pos k) one) (ratio (pos 1) u) apart less

-- the same of what the code answers
pub near_by : (dir : Dir) (digits one : ℕ) (m : Mdp) (o : Objective) (n : ℕ) (b : Bounds) → 0 < one → IsMdp m → b ≡ bounds_of dir (pos one) m o n
    → NoneIsWide dir (pos one) m o n → n * 10 ^ digits ≤ one → AreNearBounds (10 ^ digits) m b
near_by dir digits one m o n b above known_ e wide fine =
    subst (AreNearBounds (10 ^ digits) m) (sym e)
    (λ s low high h p q.
    near_by_units (10 ^ digits) one n n low high (let a = one-le-pow digits 10 (omega arith) in omega (arith, a)) above (omega arith) fine
    (units_apart dir one m o n s low high above known_ wide h p q))
