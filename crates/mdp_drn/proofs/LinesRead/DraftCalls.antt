-- What the calls keep of a draft, and what follows where a call is let through.
use Rattle.std.proofs.Common.{◌≡◌, ℕ, suc, ◌+◌, ◌^◌, ◌<◌, Bool, true, false, cond, eqb, ltb, leb, ◌||◌, List, [], ◌∷◌, ◌++◌, length, refl, sym, ap}
use Rattle.std.proofs.{Common.{subst, ◌∙◌, arith, Option, Some, None, Result, Ok, Err}, lemmas.Bool.Decides.{nat_tests}, lemmas.List.{length-append}}
use Rattle.std.specs.{List.{position_or_len}, Str.{bytes_eq}}
use Rattle.mdp_math.specs.Rational.{ℚ}
use Rattle.mdp_spec.specs.Mdp.{Entry, State}
use Rattle.mdp_rows.specs.Draft.{Draft, OpenState, OpenChoice, ◌>>=◌, choice_closed, choice_closed_in, with_choice_closed, closed_row, state_closed}
use Rattle.mdp_rows.specs.Draft.{state_closed_in, all_closed, state_opened, new_state, choice_opened, choice_opened_in, summed_rewards}
use Rattle.mdp_rows.specs.Draft.{closed_choices, after_label, label_in, with_name, with_place, after_entry, entry_in, with_choice_entry, has_target}
use Rattle.mdp_rows.specs.{Draft.{with_entry, has_open_target, has_choice}, declared.error.RowsError.{RowsError}}
use Rattle.mdp_rows.specs.declared.error.RowsError.TheVariants.{NoChoice, TooMany, Target, Twice, Count}

-- ---- outcomes

abbrev done : {A : Type 0} → A → Result A RowsError
done x = Ok x

pub ok-is : {A : Type 0} (x y : A) → done x ≡ done y → x ≡ y
ok-is x y e = cc

-- a call that is let through passed its test
pub passed : {A : Type 0} (b : Bool) (k : RowsError) (r : Result A RowsError) (y : A) → cond b (Err k) r ≡ Ok y → (b ≡ false) × (r ≡ Ok y)
passed true k r y e = absurd cc
passed false k r y e = (refl, e)

pub bound : {A B : Type 0} (r : Result A RowsError) (f : A → Result B RowsError) (y : B) → r >>= f ≡ Ok y → (x : A) × (r ≡ Ok x) × (f x ≡ Ok y)
bound (Ok x) f y e = (x, refl, e)
bound (Err k) f y e = absurd cc

-- ---- drafts

abbrev pub opened : ℕ → Option OpenState → ℕ
opened n None = n
opened n (Some o) = suc n

-- how many states were opened
abbrev pub count : Draft → ℕ
count d = opened (length d.closed) d.state

pub record Stays (d e : Draft) : Type 0 where
  pub names : e.names ≡ d.names
  pub announced : e.announced ≡ d.announced
  pub count : count e ≡ count d

abbrev pub HasState : Draft → Type 0
HasState d = (o : OpenState) × (d.state ≡ Some o)

abbrev pub HasChoice : Draft → Type 0
HasChoice d = (o : OpenState) × (c : OpenChoice) × (d.state ≡ Some o) × (o.choice ≡ Some c)

pub stays-same : (d : Draft) → Stays d d
stays-same d = record { names = refl; announced = refl; count = refl }

pub stays-then : (d e f : Draft) → Stays d e → Stays e f → Stays d f
stays-then d e f h k = record { names = k.names ∙ h.names; announced = k.announced ∙ h.announced; count = k.count ∙ h.count }

-- another open state, where one is open
abbrev with_state : Draft → OpenState → Draft
with_state d o = record d { state = Some o }

count-open : (d : Draft) (o : OpenState) → d.state ≡ Some o → suc (length d.closed) ≡ count d
count-open d o is = sym (ap (opened (length d.closed)) is)

-- ---- the open choice is closed

abbrev Closes : Draft → Draft → Type 0
Closes d e = Stays d e × (HasState d → HasState e)

pub choice-closed : (d e : Draft) → choice_closed d ≡ Ok e → Closes d e
choice-closed d e h = by d.state refl h
  where
    of-choice : (o : OpenState) (c : Option OpenChoice) → d.state ≡ Some o → with_choice_closed d o c ≡ Ok e → Closes d e
    of-choice o None is h = subst (Closes d) (ok-is d e h) (stays-same d, λ k. k)
    of-choice o (Some c) is h =
        let r = bound (closed_row d.rule (length d.closed) (length o.choices) c.row)
        (λ row. Ok (record d { state = Some (record o { choices = o.choices ++ record { row = row; rewards = c.rewards } ∷ []; choice = None }) })) e h in
        let o2 : OpenState = record o { choices = o.choices ++ record { row = r.0; rewards = c.rewards } ∷ []; choice = None } in
        subst (Closes d) (ok-is (with_state d o2) e r.2) (record { names = refl; announced = refl; count = count-open d o is }, λ k. (o2, refl))

    by : (s : Option OpenState) → d.state ≡ s → choice_closed_in d s ≡ Ok e → Closes d e
    by None is h = subst (Closes d) (ok-is d e h) (stays-same d, λ k. k)
    by (Some o) is h = of-choice o o.choice is h

-- ---- the open state is closed

record Shuts (d e : Draft) : Type 0 where
  names : e.names ≡ d.names
  announced : e.announced ≡ d.announced
  closed : length e.closed ≡ count d

state-closed : (d e : Draft) → state_closed d ≡ Ok e → Shuts d e
state-closed d e h = by d.state refl h
  where
    by : (s : Option OpenState) → d.state ≡ s → state_closed_in d s ≡ Ok e → Shuts d e
    by None is h = subst (Shuts d) (ok-is d e h) (record { names = refl; announced = refl; closed = sym (ap (opened (length d.closed)) is) })
    by (Some o) is h =
        let x : State = record { labels = o.labels; choices = o.choices } in
        let p = passed (eqb (length o.choices) 0) (NoChoice (length d.closed)) (Ok (record d { closed = d.closed ++ x ∷ []; state = None })) e h in
        let l : length (d.closed ++ x ∷ []) ≡ length d.closed + 1 = length-append d.closed (x ∷ []) in
        subst (Shuts d) (ok-is (record d { closed = d.closed ++ x ∷ []; state = None }) e p.1) (record { names = refl; announced = refl; closed = l ∙ omega arith ∙ count-open d o is })

pub record ClosesAll (d e : Draft) : Type 0 where
  pub names : e.names ≡ d.names
  pub announced : e.announced ≡ d.announced
  pub closed : length e.closed ≡ count d

pub all-closed : (d e : Draft) → all_closed d ≡ Ok e → ClosesAll d e
all-closed d e h =
    let b = bound (choice_closed d) state_closed e h in
    let c = (choice-closed d b.0 b.1).0 in
    let s = state-closed b.0 e b.2 in
    record { names = s.names ∙ c.names; announced = s.announced ∙ c.announced; closed = s.closed ∙ c.count }

-- ---- a state opens

pub record Opens (d e : Draft) : Type 0 where
  pub names : e.names ≡ d.names
  pub announced : e.announced ≡ d.announced
  pub count : count e ≡ suc (length d.closed)
  pub state : HasState e

pub state-opened : (d e : Draft) (rewards : List ℚ) → state_opened d rewards ≡ Ok e → Opens d e
state-opened d e rewards h =
    let p = passed (eqb (length d.closed) d.announced) Count (Ok (record d { state = Some (new_state rewards) })) e h in
    subst (Opens d) (ok-is (with_state d (new_state rewards)) e p.1) (record { names = refl; announced = refl; count = refl; state = (new_state rewards, refl) })

-- ---- a label

abbrev Labels : Draft → Draft → Type 0
Labels d e = Stays d e × (HasState d → HasState e)

pub label-given : (d e : Draft) (name : List ℕ) → after_label d name ≡ Ok e → Labels d e
label-given d e name h = by d.state refl h
  where
    by : (s : Option OpenState) → d.state ≡ s → label_in d name s ≡ Ok e → Labels d e
    by None is h = subst (Labels d) (ok-is d e h) (stays-same d, λ k. k)
    by (Some o) is h =
        let o2 : OpenState = record o { labels = with_place (position_or_len (bytes_eq name) d.labels) o.labels; label_calls = o.label_calls + 1 } in
        let d2 : Draft = record d { labels = with_name d.labels name; state = Some o2 } in
        let p = passed (leb 64 o.label_calls || ltb 1024 (length (with_name d.labels name))) TooMany (Ok d2) e h in
        subst (Labels d) (ok-is d2 e p.1) (record { names = refl; announced = refl; count = count-open d o is }, λ k. (o2, refl))

-- ---- a choice opens

pub choice-opened : (d e : Draft) (rewards : List ℚ) → HasState d → choice_opened d rewards ≡ Ok e → Stays d e × HasChoice e
choice-opened d e rewards s h = by s.0 s.1 (ap (choice_opened_in d rewards) (sym s.1) ∙ h)
  where
    by : (o : OpenState) → d.state ≡ Some o → choice_opened_in d rewards (Some o) ≡ Ok e → Stays d e × HasChoice e
    by o is h =
        let p = passed (ltb (2 ^ 22) (closed_choices d + length o.choices + 1)) TooMany
        (summed_rewards o.rewards rewards >>= λ sums. Ok (record d { state = Some (record o { choice = Some (record { rewards = sums; row = [] }) }) })) e h in
        let b = bound (summed_rewards o.rewards rewards) (λ sums. Ok (record d { state = Some (record o { choice = Some (record { rewards = sums; row = [] }) }) })) e p.1 in
        let c : OpenChoice = record { rewards = b.0; row = [] } in
        let o2 : OpenState = record o { choice = Some c } in
        subst (λ (x : Draft). Stays d x × HasChoice x) (ok-is (with_state d o2) e b.2) (record { names = refl; announced = refl; count = count-open d o is }, (o2, c, refl, refl))

-- ---- an entry

pub record Enters (d e : Draft) (target : ℕ) : Type 0 where
  pub stays : Stays d e
  pub choice : HasChoice e
  pub inside : target < d.announced
  pub once : has_open_target d target ≡ false

open-target : (d : Draft) (target : ℕ) (o : OpenState) (c : OpenChoice) → d.state ≡ Some o → o.choice ≡ Some c → has_open_target d target ≡ has_target c.row target
open-target d target o c p q = rw (p, q) refl

pub has-choice : (d : Draft) → HasChoice d → has_choice d ≡ true
has-choice d h = rw (h.2, h.3) refl

pub entry-given : (d e : Draft) (target : ℕ) (value : ℚ) → HasChoice d → after_entry d target value ≡ Ok e → Enters d e target
entry-given d e target value s h = by s.0 s.1 s.2 s.3 (ap (with_choice_entry d target value s.0) (sym s.3) ∙ ap (entry_in d target value) (sym s.2) ∙ h)
  where
    inside : (a t : ℕ) → leb a t ≡ false → t < a
    inside a t e = grind (arith, nat_tests)

    by : (o : OpenState) (c : OpenChoice) → d.state ≡ Some o → o.choice ≡ Some c → with_choice_entry d target value o (Some c) ≡ Ok e → Enters d e target
    by o c is chosen h =
        let row : List Entry = with_entry (record { target = target; prob = value }) c.row in
        let c2 : OpenChoice = record c { row = row } in
        let o2 : OpenState = record o { choice = Some c2 } in
        let d2 : Draft = record d { entries = d.entries + 1; state = Some o2 } in
        let p = passed (leb d.announced target) Target (cond (has_target c.row target) (Err Twice) (cond (leb (2 ^ 24) d.entries) (Err TooMany) (Ok d2))) e h in
        let q = passed (has_target c.row target) Twice (cond (leb (2 ^ 24) d.entries) (Err TooMany) (Ok d2)) e p.1 in
        let r = passed (leb (2 ^ 24) d.entries) TooMany (Ok d2) e q.1 in
        subst (λ (x : Draft). Enters d x target) (ok-is d2 e r.1)
        (record {
          stays = record { names = refl; announced = refl; count = count-open d o is };
          choice =
              (o2, c2, refl, refl);
          inside = inside d.announced target p.0;
          once = open-target d target o c is chosen
              ∙ q.0;
        })
