-- What the flat vectors say of the choices.
use Rattle.std.proofs.Common.{◌≡◌, ℕ, zero, suc, ◌+◌, ◌*◌, ◌<◌, ◌≤◌, ◌^◌, List, [], ◌∷◌, ◌++◌, length}
use Rattle.std.proofs.Common.{take, drop, get_or, sum_by, pos, refl, sym, ap, ap₂, subst, ◌∙◌, arith, length-append}
use Rattle.std.proofs.lemmas.List.{length-map, length-drop, length-take-le, take-append-le, drop-append-le, get_or-take, get_or-drop}
use Rattle.std.proofs.{lemmas.List.Elements.{All-from_recursion, recursion_from_All}, lemmas.List.Sums.{sum_by-cons}, Math.Seq.{take-length}}
use native.Mathlib.Nat.{mul-le-mul_left, mul-le-mul_right}
use Rattle.std.specs.{Global.{Vec}, List.{All, AllByRecursion}}
use Rattle.mdp_math.specs.Rational.{ℚ, of_int}
use Rattle.mdp_spec.specs.{Mdp.{Entry, Choice, no_choice}, Row.{IsDistribution}, Unit.{reward_of}}
use Rattle.mdp_rows.specs.{ChoiceTable.{ChoiceTable, IsChoice}, FlatChoices.{with_rewards, table_in, bytes_of, AreChoices}, Name.{AreRewardNames}}
use Rattle.mdp_rows.specs.declared.choices.Choices.TheInside.{Inside}

-- ---- rows with their rewards

pub length-with_rewards : (n : ℕ) (rows : List (List Entry)) (xs : List ℚ) → length (with_rewards n rows xs) ≡ length rows
length-with_rewards n [] xs = refl
length-with_rewards n (r ∷ rows) xs = ap (λ k. suc k) (length-with_rewards n rows (drop n xs))

row-with_rewards : (n : ℕ) (rows : List (List Entry)) (xs : List ℚ) (i : ℕ) → (get_or (with_rewards n rows xs) i no_choice).row ≡ get_or rows i []
row-with_rewards n [] xs i = refl
row-with_rewards n (r ∷ rows) xs zero = refl
row-with_rewards n (r ∷ rows) xs (suc i) = row-with_rewards n rows (drop n xs) i

next_place : (n i m : ℕ) → n + (i * n + m) ≡ suc i * n + m
next_place n i m = omega arith

reward-with_rewards : (n : ℕ) (rows : List (List Entry)) (xs : List ℚ) (i m : ℕ) → i < length rows → m < n
    → reward_of (get_or (with_rewards n rows xs) i no_choice) m ≡ get_or xs (i * n + m) (of_int (pos 0))
reward-with_rewards n [] xs i m h k = absurd (omega arith)
reward-with_rewards n (r ∷ rows) xs zero m h k = get_or-take n xs m (of_int (pos 0)) k ∙ ap (λ (j : ℕ). get_or xs j (of_int (pos 0))) (let e : m ≡ 0 * n + m = omega arith in e)
reward-with_rewards n (r ∷ rows) xs (suc i) m h k =
    reward-with_rewards n rows (drop n xs) i m (omega arith) k ∙ get_or-drop n xs (i * n + m) (of_int (pos 0))
    ∙ ap (λ (j : ℕ). get_or xs j (of_int (pos 0))) (next_place n i m)

pub entries-with_rewards : (n : ℕ) (rows : List (List Entry)) (xs : List ℚ) → sum_by (λ (c : Choice). length c.row) (with_rewards n rows xs) ≡ sum_by length rows
entries-with_rewards n [] xs = refl
entries-with_rewards n (r ∷ rows) xs =
    sum_by-cons (λ (c : Choice). length c.row) (record { row = r; rewards = take n xs }) (with_rewards n rows (drop n xs))
    ∙ ap (λ (k : ℕ). length r + k) (entries-with_rewards n rows (drop n xs)) ∙ sym (sum_by-cons length r rows)

first_fit : (n k : ℕ) (xs : List ℚ) → length xs ≡ suc k * n → n ≤ length xs
first_fit n k xs e = let f : suc k * n ≡ n + k * n = omega arith in omega arith

rest_len : (n k : ℕ) (xs : List ℚ) → length xs ≡ suc k * n → length (drop n xs) ≡ k * n
rest_len n k xs e = let f : suc k * n ≡ n + k * n = omega arith in let d = length-drop n xs in omega arith

one_choice : (n : ℕ) (r : List Entry) (ys : List ℚ) → length ys ≡ n → take n ys ≡ ys
one_choice n r ys e = rw (← e) (take-length ys)

pub with_rewards-more : (n : ℕ) (rows : List (List Entry)) (xs ys : List ℚ) (r : List Entry) → length xs ≡ length rows * n → length ys ≡ n
    → with_rewards n (rows ++ r ∷ []) (xs ++ ys) ≡ with_rewards n rows xs ++ record { row = r; rewards = ys } ∷ []
with_rewards-more n [] [] ys r e f = ap (λ (zs : List ℚ). record { row = r; rewards = zs } ∷ []) (one_choice n r ys f)
with_rewards-more n [] (x ∷ xs) ys r e f = absurd (let g : 0 * n ≡ 0 = omega arith in omega arith)
with_rewards-more n (q ∷ rows) xs ys r e f =
    ap₂ (λ (zs : List ℚ) (cs : List Choice). record { row = q; rewards = zs } ∷ cs) (take-append-le n xs ys (first_fit n (length rows) xs e))
    (ap (with_rewards n (rows ++ r ∷ [])) (drop-append-le n xs ys (first_fit n (length rows) xs e)) ∙ with_rewards-more n rows (drop n xs) ys r (rest_len n (length rows) xs e) f)

all_choices : (n : ℕ) (rows : List (List Entry)) (xs : List ℚ) → length xs ≡ length rows * n → AllByRecursion IsDistribution rows → AllByRecursion (IsChoice n) (with_rewards n rows xs)
all_choices n [] xs e all = tt
all_choices n (r ∷ rows) xs e all =
    (record { distribution = all.0; rewards = length-take-le n xs (first_fit n (length rows) xs e) }, all_choices n rows (drop n xs) (rest_len n (length rows) xs e) all.1)

-- ---- the view

same_table : (x y : ChoiceTable) → x.names ≡ y.names → x.choices ≡ y.choices → x ≡ y
same_table x y n c = λ i. record { names = n i; choices = c i }

pub names_are : (c : Inside) (v : ChoiceTable) → table_in c ≡ v → bytes_of c.names.items ≡ v.names
unfolding table_in
names_are c v is = ap (λ (t : ChoiceTable). t.names) is

pub names_len : (c : Inside) (v : ChoiceTable) → table_in c ≡ v → length c.names.items ≡ length v.names
names_len c v is = sym (length-map c.names.items (λ n. n.items)) ∙ ap length (names_are c v is)

pub few_names : (c : Inside) → AreChoices c → length c.names.items ≤ 16
few_names c ok = let l = length-map c.names.items (λ n. n.items) in let f = ok.names.few in omega arith

pub choices_are : (c : Inside) (v : ChoiceTable) → table_in c ≡ v → with_rewards (length c.names.items) c.rows c.rewards.items ≡ v.choices
unfolding table_in
choices_are c v is = ap (λ (t : ChoiceTable). t.choices) is

pub choices_len : (c : Inside) (v : ChoiceTable) → table_in c ≡ v → length c.rows ≡ length v.choices
choices_len c v is = sym (length-with_rewards (length c.names.items) c.rows c.rewards.items) ∙ ap length (choices_are c v is)

pub entries_are : (c : Inside) (v : ChoiceTable) → table_in c ≡ v → sum_by length c.rows ≡ sum_by (λ (x : Choice). length x.row) v.choices
entries_are c v is = sym (entries-with_rewards (length c.names.items) c.rows c.rewards.items) ∙ ap (sum_by (λ (x : Choice). length x.row)) (choices_are c v is)

pub row_is : (c : Inside) (v : ChoiceTable) (i : ℕ) → table_in c ≡ v → get_or c.rows i [] ≡ (get_or v.choices i no_choice).row
row_is c v i is =
    sym (row-with_rewards (length c.names.items) c.rows c.rewards.items i) ∙ ap (λ (l : List Choice). (get_or l i no_choice).row) (choices_are c v is)

pub reward_is : (c : Inside) (v : ChoiceTable) (i m : ℕ) → table_in c ≡ v → i < length v.choices → m < length v.names
    → get_or c.rewards.items (i * length c.names.items + m) (of_int (pos 0)) ≡ reward_of (get_or v.choices i no_choice) m
reward_is c v i m is h k =
    let l = choices_len c v is in let n = names_len c v is in
    sym (reward-with_rewards (length c.names.items) c.rows c.rewards.items i m (omega arith) (omega arith)) ∙ ap (λ (l : List Choice). reward_of (get_or l i no_choice) m) (choices_are c v is)

-- a reward's place is one of the vector
pub reward_there : (c : Inside) (v : ChoiceTable) (i m : ℕ) → AreChoices c → table_in c ≡ v → i < length v.choices → m < length v.names → i * length c.names.items + m < length c.rewards.items
reward_there c v i m ok is h k =
    let l = choices_len c v is in let n = names_len c v is in
    let a : suc i * length c.names.items ≤ length c.rows * length c.names.items = mul-le-mul_right (length c.names.items) (let z : suc i ≤ length c.rows = omega arith in z) in
    let b : suc i * length c.names.items ≡ length c.names.items + i * length c.names.items = omega arith in
    omega (arith, a, b, l, n, ok.rewards)

pub few_places : (c : Inside) (i m : ℕ) → AreChoices c → i < 2 ^ 32 → m < 2 ^ 32 → i * length c.names.items + m < 2 ^ 40
few_places c i m ok h k =
    let f = few_names c ok in
    let a : i * length c.names.items ≤ i * 16 = mul-le-mul_left i f in
    omega (arith, a)

pub all_known : (c : Inside) (v : ChoiceTable) → AreChoices c → table_in c ≡ v → All IsDistribution c.rows → All (IsChoice (length v.names)) v.choices
all_known c v ok is all =
    subst (λ (n : ℕ). All (IsChoice n) v.choices) (names_len c v is)
    (subst (λ (l : List Choice). All (IsChoice (length c.names.items)) l) (choices_are c v is)
    (All-from_recursion (IsChoice (length c.names.items)) (with_rewards (length c.names.items) c.rows c.rewards.items)
    (all_choices (length c.names.items) c.rows c.rewards.items ok.rewards (recursion_from_All IsDistribution c.rows all))))

pub reward_names : (c : Inside) (v : ChoiceTable) → AreChoices c → table_in c ≡ v → AreRewardNames v.names
reward_names c v ok is = subst AreRewardNames (names_are c v is) ok.names

-- ---- one choice more

pub same_choices : (c : Inside) (rows : List (List Entry)) (rewards : Vec ℚ) (v : ChoiceTable) → rows ≡ c.rows → rewards.items ≡ c.rewards.items → table_in c ≡ v
    → table_in (record c { rows = rows; rewards = rewards }) ≡ v
unfolding table_in
same_choices c rows rewards v r x is =
    same_table _ _ refl (ap₂ (λ (a : List (List Entry)) (b : List ℚ). with_rewards (length c.names.items) a b) r x) ∙ is

module _ (c : Inside) (v : ChoiceTable) (rows : List (List Entry)) (rewards : Vec ℚ) (row : List Entry) (given : List ℚ) (ok : AreChoices c) (is : table_in c ≡ v)
    (as_many : length given ≡ length v.names)
    (more : rows ≡ c.rows ++ row ∷ []) (added : rewards.items ≡ c.rewards.items ++ given) where
  given_len : length given ≡ length c.names.items
  given_len = as_many ∙ sym (names_len c v is)

  pub one_more : table_in (record c { rows = rows; rewards = rewards }) ≡ record { names = v.names; choices = v.choices ++ record { row = row; rewards = given } ∷ [] }
  unfolding table_in
  one_more =
      same_table _ _ (names_are c v is)
      (ap₂ (λ (a : List (List Entry)) (b : List ℚ). with_rewards (length c.names.items) a b) more added
      ∙ with_rewards-more (length c.names.items) c.rows c.rewards.items given row ok.rewards given_len
      ∙ ap (λ (l : List Choice). l ++ record { row = row; rewards = given } ∷ []) (choices_are c v is))

  pub are_one_more : AreChoices (record c { rows = rows; rewards = rewards })
  are_one_more = record {
    names = ok.names;
    rewards =
        let a = ap length added ∙ length-append c.rewards.items given in
        let b = ap length more ∙ length-append c.rows (row ∷ []) in
        let g = given_len in
        let e : length rows * length c.names.items ≡ (length c.rows + 1) * length c.names.items = ap (λ (k : ℕ). k * length c.names.items) b in
        let f : (length c.rows + 1) * length c.names.items ≡ length c.rows * length c.names.items + length c.names.items = omega arith in
        omega (arith, a, e, f, g, ok.rewards);
  }

pub no_choices : (c : Inside) → c.rows ≡ [] → table_in c ≡ record { names = bytes_of c.names.items; choices = [] }
unfolding table_in
no_choices c r = same_table _ _ refl (ap (λ (a : List (List Entry)). with_rewards (length c.names.items) a c.rewards.items) r)

pub name_at : (names : List (Vec ℕ)) (m : ℕ) (d : Vec ℕ) → m < length names → (let v : Vec ℕ = get_or names m d in v.items) ≡ get_or (bytes_of names) m []
name_at [] m d h = absurd (omega arith)
name_at (n ∷ names) zero d h = refl
name_at (n ∷ names) (suc m) d h = name_at names m d (omega arith)
