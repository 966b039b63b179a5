-- A subsystem of a model is a model: it has the states of the model, the choices of each kept state and goal, and a loop at any other state. A
-- policy of the model, read on it, is a policy there.
use Rattle.std.proofs.Common.{◌≡◌, ℕ, zero, suc, ◌+◌, ◌≤◌, ◌<◌, ⊎_elim, Bool, true, false, true≢false, ◌||◌, ◌&&◌, le-leb}
use Rattle.std.proofs.{Common.{cond, List, [], ◌∷◌, length, get_or, pos, refl, sym, ap, subst, ◌∙◌, arith}, lemmas.List.{get_or_past}}
use Rattle.std.proofs.{lemmas.List.Elements.{All-from_recursion}, lemmas.Bool.{cases_Bool}}
use Rattle.mdp_math.specs.Rational.{of_int, ◌<ℚ◌}
use Rattle.mdp_math.proofs.{Ring.{◌⊕◌, lit, ring}, Laws.{rat_ring}, Whole.{one-pos}}
use Rattle.mdp_spec.specs.{Mdp.{Entry, Choice, State, Mdp, no_state, no_choice, states_of, state_at, choices_at, row_at}, Row.{IsRow, IsMdp}}
use Rattle.mdp_spec.specs.{Sub.{loop_at, cut_from, sub_of, policy_from, policy_on}, Tree.{IsPolicy, is_marked}}

-- whether a state stays as it is
abbrev pub stays : List Bool → List Bool → ℕ → Bool
stays goals kept s = is_marked goals s || is_marked kept s

-- a state of the model, or its loop
abbrev cut_state : List (List ℕ) → ℕ → State → Bool → State
cut_state names s x b = cond b x (record x { choices = loop_at names s ∷ [] })

length-cut : (names : List (List ℕ)) (keeps : ℕ → Bool) (s : ℕ) (states : List State) → length (cut_from names s states keeps) ≡ length states
length-cut names keeps s [] = refl
length-cut names keeps s (x ∷ states) = let h = length-cut names keeps (suc s) states in omega (arith, h)

cut_at : (names : List (List ℕ)) (keeps : ℕ → Bool) (s k : ℕ) (states : List State) (d : State) → k < length states
    → get_or (cut_from names s states keeps) k d ≡ cut_state names (s + k) (get_or states k d) (keeps (s + k))
cut_at names keeps s k [] d h = absurd (omega arith)
cut_at names keeps s zero (x ∷ states) d h = ap (λ (i : ℕ). cut_state names i x (keeps i)) (let e : s ≡ s + 0 = omega arith in e)
cut_at names keeps s (suc k) (x ∷ states) d h =
    cut_at names keeps (suc s) k states d (omega arith) ∙ ap (λ (i : ℕ). cut_state names i (get_or states k d) (keeps i)) (let e : suc s + k ≡ s + suc k = omega arith in e)

pub sub-states : (m : Mdp) (goals kept : List Bool) → states_of (sub_of m goals kept) ≡ states_of m
unfolding sub_of
sub-states m goals kept = length-cut m.names (stays goals kept) 0 m.states

sub-state : (m : Mdp) (goals kept : List Bool) (s : ℕ) → s < states_of m → state_at (sub_of m goals kept) s ≡ cut_state m.names s (state_at m s) (stays goals kept s)
unfolding sub_of
sub-state m goals kept s h =
    cut_at m.names (stays goals kept) 0 s m.states no_state h ∙ ap (λ (i : ℕ). cut_state m.names i (state_at m s) (stays goals kept i)) (let e : 0 + s ≡ s = omega arith in e)

-- ---- the choices of each state

pub sub-stays : (m : Mdp) (goals kept : List Bool) (s : ℕ) → s < states_of m → stays goals kept s ≡ true → choices_at (sub_of m goals kept) s ≡ choices_at m s
sub-stays m goals kept s h e = ap State.choices (sub-state m goals kept s h ∙ ap (cut_state m.names s (state_at m s)) e)

pub sub-loops : (m : Mdp) (goals kept : List Bool) (s : ℕ) → s < states_of m → stays goals kept s ≡ false → choices_at (sub_of m goals kept) s ≡ loop_at m.names s ∷ []
sub-loops m goals kept s h e = ap State.choices (sub-state m goals kept s h ∙ ap (cut_state m.names s (state_at m s)) e)

pub stays-goal : (goals kept : List Bool) (s : ℕ) → is_marked goals s ≡ true → stays goals kept s ≡ true
stays-goal goals kept s e = ap (λ (b : Bool). b || is_marked kept s) e

pub stays-kept : (goals kept : List Bool) (s : ℕ) → is_marked kept s ≡ true → stays goals kept s ≡ true
stays-kept goals kept s e = ⊎_elim (λ g. stays-goal goals kept s g) (λ g. ap (λ (b : Bool). b || is_marked kept s) g ∙ e) (cases_Bool (is_marked goals s))

pub stays-row : (m : Mdp) (goals kept : List Bool) (s c : ℕ) → s < states_of m → stays goals kept s ≡ true → row_at (sub_of m goals kept) s c ≡ row_at m s c
stays-row m goals kept s c h e = ap (λ (cs : List Choice). Choice.row (get_or cs c no_choice)) (sub-stays m goals kept s h e)

-- ---- it is a model

abbrev pub loop_row : ℕ → List Entry
loop_row s = record { target = s; prob = of_int (pos 1) } ∷ []

pub loop_is_row : (n s : ℕ) → s < n → IsRow n (loop_row s)
loop_is_row n s h = record {
  distribution = record {
    ascending = ap (λ (b : Bool). b && true) (le-leb 0 s (omega arith));
    positive = All-from_recursion (λ x. of_int (pos 0) <ℚ x.prob) (loop_row s) (one-pos, tt);
    total = ring rat_ring 0 (lit (pos 1) ⊕ lit (pos 0)) (lit (pos 1)) refl;
  };
  in_range = All-from_recursion (λ x. x.target < n) (loop_row s) (h, tt);
}

loop_at_is_row : (names : List (List ℕ)) (n s c : ℕ) → s < n → c < length (loop_at names s ∷ []) → IsRow n (Choice.row (get_or (loop_at names s ∷ []) c no_choice))
loop_at_is_row names n s zero h l = loop_is_row n s h
loop_at_is_row names n s (suc c) h l = absurd (omega arith)

pub sub_is_mdp : (m : Mdp) (goals kept : List Bool) → IsMdp m → IsMdp (sub_of m goals kept)
sub_is_mdp m goals kept known =
    let b : Mdp = sub_of m goals kept in
    let e : states_of b ≡ states_of m = sub-states m goals kept in
    let some = known.some in
    let few = known.few in
    record {
      some = omega (arith, e, some);
      few = omega (arith, e, few);
      choice = λ s h.
          ⊎_elim
          (λ k. subst (λ (cs : List Choice). 0 < length cs) (sym (sub-stays m goals kept s (omega (arith, e)) k)) (known.choice s (omega (arith, e))))
          (λ k. subst (λ (cs : List Choice). 0 < length cs) (sym (sub-loops m goals kept s (omega (arith, e)) k)) (omega arith))
          (cases_Bool (stays goals kept s));
      row = λ s c h l.
          subst (λ (n : ℕ). IsRow n (row_at b s c)) (sym e)
          (⊎_elim
          (λ k.
          let same = sub-stays m goals kept s (omega (arith, e)) k in
          subst (λ (cs : List Choice). IsRow (states_of m) (Choice.row (get_or cs c no_choice))) (sym same)
          (known.row s c (omega (arith, e)) (subst (λ (cs : List Choice). c < length cs) same l)))
          (λ k.
          let same = sub-loops m goals kept s (omega (arith, e)) k in
          subst (λ (cs : List Choice). IsRow (states_of m) (Choice.row (get_or cs c no_choice))) (sym same)
          (loop_at_is_row m.names (states_of m) s c (omega (arith, e)) (subst (λ (cs : List Choice). c < length cs) same l)))
          (cases_Bool (stays goals kept s)));
    }

-- ---- where each state stays, it is the model

cut-none : (names : List (List ℕ)) (keeps : ℕ → Bool) (s : ℕ) (states : List State) → ((v : ℕ) → s ≤ v → v < s + length states → keeps v ≡ true) → cut_from names s states keeps ≡ states
cut-none names keeps s [] all = refl
cut-none names keeps s (x ∷ states) all =
    ap (λ (b : Bool). cut_state names s x b ∷ cut_from names (suc s) states keeps) (all s (omega arith) (omega arith))
    ∙ ap (λ (rest : List State). x ∷ rest) (cut-none names keeps (suc s) states (λ v l h. all v (omega arith) (omega (arith, h))))

pub sub-whole : (m : Mdp) (goals kept : List Bool) → ((s : ℕ) → s < states_of m → stays goals kept s ≡ true) → sub_of m goals kept ≡ m
unfolding sub_of
sub-whole m goals kept all = ap (λ (states : List State). record m { states = states }) (cut-none m.names (stays goals kept) 0 m.states (λ v l h. all v (omega (arith, h))))

-- ---- a subsystem of a subsystem that keeps no more states is one of the model

cut-again : (names : List (List ℕ)) (s : ℕ) (x : State) (inner outer : Bool) → (outer ≡ true → inner ≡ true) → cut_state names s (cut_state names s x inner) outer ≡ cut_state names s x outer
cut-again names s x true outer h = refl
cut-again names s x false true h = absurd (true≢false (sym (h refl)))
cut-again names s x false false h = refl

cut-twice : (names : List (List ℕ)) (inner outer : ℕ → Bool) (s : ℕ) (states : List State) → ((v : ℕ) → s ≤ v → v < s + length states → outer v ≡ true → inner v ≡ true)
    → cut_from names s (cut_from names s states inner) outer ≡ cut_from names s states outer
cut-twice names inner outer s [] all = refl
cut-twice names inner outer s (x ∷ states) all =
    ap (λ (y : State). y ∷ cut_from names (suc s) (cut_from names (suc s) states inner) outer) (cut-again names s x (inner s) (outer s) (all s (omega arith) (omega arith)))
    ∙ ap (λ (rest : List State). cut_state names s x (outer s) ∷ rest) (cut-twice names inner outer (suc s) states (λ v l h. all v (omega arith) (omega (arith, h))))

stays-more : (a b c : Bool) → (b ≡ true → c ≡ true) → a || b ≡ true → a || c ≡ true
stays-more true b c h e = refl
stays-more false b c h e = h e

pub sub-sub : (m : Mdp) (goals stay kept : List Bool) → ((s : ℕ) → s < states_of m → is_marked kept s ≡ true → is_marked stay s ≡ true)
    → sub_of (sub_of m goals stay) goals kept ≡ sub_of m goals kept
unfolding sub_of
sub-sub m goals stay kept inc =
    ap (λ (states : List State). record m { states = states })
    (cut-twice m.names (stays goals stay) (stays goals kept) 0 m.states (λ v l h. stays-more (is_marked goals v) (is_marked kept v) (is_marked stay v) (inc v (omega (arith, h)))))

-- ---- a policy read on a subsystem

same_either : (b : Bool) → cond {A = ℕ} b 0 0 ≡ 0
same_either true = refl
same_either false = refl

from_at : (s k : ℕ) (policy : List ℕ) (keeps : ℕ → Bool) → get_or (policy_from s policy keeps) k 0 ≡ cond (keeps (s + k)) (get_or policy k 0) 0
from_at s k [] keeps = get_or_past [] k 0 (omega arith) ∙ sym (ap (λ (c : ℕ). cond (keeps (s + k)) c 0) (get_or_past [] k 0 (omega arith)) ∙ same_either (keeps (s + k)))
from_at s zero (c ∷ policy) keeps = ap (λ (i : ℕ). cond (keeps i) c 0) (let e : s ≡ s + 0 = omega arith in e)
from_at s (suc k) (c ∷ policy) keeps = from_at (suc s) k policy keeps ∙ ap (λ (i : ℕ). cond (keeps i) (get_or policy k 0) 0) (let e : suc s + k ≡ s + suc k = omega arith in e)

policy_on-at : (goals kept : List Bool) (policy : List ℕ) (s : ℕ) → get_or (policy_on goals kept policy) s 0 ≡ cond (stays goals kept s) (get_or policy s 0) 0
policy_on-at goals kept policy s = from_at 0 s policy (λ v. is_marked goals v || is_marked kept v)
    ∙ ap (λ (i : ℕ). cond (stays goals kept i) (get_or policy s 0) 0) (let e : 0 + s ≡ s = omega arith in e)

pub policy_on-stays : (goals kept : List Bool) (policy : List ℕ) (s : ℕ) → stays goals kept s ≡ true → get_or (policy_on goals kept policy) s 0 ≡ get_or policy s 0
policy_on-stays goals kept policy s e = policy_on-at goals kept policy s ∙ ap (λ (b : Bool). cond b (get_or policy s 0) 0) e

pub policy_on-loops : (goals kept : List Bool) (policy : List ℕ) (s : ℕ) → stays goals kept s ≡ false → get_or (policy_on goals kept policy) s 0 ≡ 0
policy_on-loops goals kept policy s e = policy_on-at goals kept policy s ∙ ap (λ (b : Bool). cond b (get_or policy s 0) 0) e

length-policy_from : (s : ℕ) (policy : List ℕ) (keeps : ℕ → Bool) → length (policy_from s policy keeps) ≡ length policy
length-policy_from s [] keeps = refl
length-policy_from s (c ∷ policy) keeps = let h = length-policy_from (suc s) policy keeps in omega (arith, h)

-- it is a policy there, where its choices are those that the staying states have
pub policy_on_is : (m : Mdp) (goals kept : List Bool) (policy : List ℕ) → length policy ≡ states_of m
    → ((s : ℕ) → s < states_of m → stays goals kept s ≡ true → get_or policy s 0 < length (choices_at m s)) → IsPolicy (sub_of m goals kept) (policy_on goals kept policy)
policy_on_is m goals kept policy each has = record {
  one_each = length-policy_from 0 policy (λ s. is_marked goals s || is_marked kept s) ∙ each ∙ sym (sub-states m goals kept);
  in_range = λ s i.
      let h : s < states_of m = subst (λ (n : ℕ). s < n) (sub-states m goals kept) i in
      ⊎_elim
      (λ e. subst (λ (c : ℕ). c < length (choices_at (sub_of m goals kept) s)) (sym (policy_on-stays goals kept policy s e))
      (subst (λ (cs : List Choice). get_or policy s 0 < length cs) (sym (sub-stays m goals kept s h e)) (has s h e)))
      (λ e. subst (λ (c : ℕ). c < length (choices_at (sub_of m goals kept) s)) (sym (policy_on-loops goals kept policy s e))
      (subst (λ (cs : List Choice). 0 < length cs) (sym (sub-loops m goals kept s h e)) (omega arith)))
      (cases_Bool (stays goals kept s));
}

-- so a policy of the model is one
pub policy_on_sub : (m : Mdp) (goals kept : List Bool) (policy : List ℕ) → IsPolicy m policy → IsPolicy (sub_of m goals kept) (policy_on goals kept policy)
policy_on_sub m goals kept policy p = policy_on_is m goals kept policy p.one_each (λ s h e. p.in_range s h)
