-- Where two ways meet: the phis of a join and of a loop's header take one of two operators, one of which has been passed.
use Rattle.std.proofs.Common.{◌≡◌, ◌∙◌, ◌<◌, ◌≤◌, ◌+◌, ℕ, List, [], ◌∷◌, length, ap, sym, subst, refl, arith, cond, Bool, true, false, ◌&&◌, ◌||◌, Option, Some, None, is_some, option_to_list, ◌⊎◌, inl, inr}
use Rattle.std.proofs.lemmas.Bool.{or_parts}
use Rattle.mit_ssa.specs.Woven.{Defined, Weave, assigned_in, definition_of, join_phis, loop_phis, on_both, phi_of, with_phis}
use Rattle.mit_ssa.proofs.DefinitionsPhis.{Each, among, by_either, each_chosen, fails, passes, phi_among, phis_keep, some_true}
use Rattle.mit_ssa.proofs.DefinitionsEnds.{Ends, IsNew, both_parts}
use Rattle.mit_ssa.proofs.DefinitionsGood.{Among, GoodPhi, Has, Leads, Marks, Offers, Split, definition_is, only_of, phis_has}

pub each_map : {A : Type 0} (P Q : A → Type 0) (xs : List A) → ((x : A) → P x → Q x) → Each P xs → Each Q xs
unfolding Each
each_map P Q [] change each = tt
each_map P Q (x ∷ xs) change each = (change x each.0, each_map P Q xs change each.1)

pub record Three (a b c : Bool) : Type 0 where
  pub one : a ≡ true
  pub two : b ≡ true
  pub three : c ≡ true

three : (a b c : Bool) → (a && b && c) ≡ true → Three a b c
three true true true is = record { one = refl; two = refl; three = refl }
three true true false is = absurd cc
three true false c is = absurd cc
three false b c is = absurd cc

pub both_are : (a b : Bool) → (a && b) ≡ true → (a ≡ true) × (b ≡ true)
both_are true b is = (refl, is)
both_are false b is = absurd cc

-- ---- entries with phis

-- the operators of which a variable's is one, where these variables have phis
abbrev pub either_of : List ℕ → Defined → Defined → Defined → ℕ → List ℕ
either_of phis one other same variable = cond (among phis variable) (definition_of one variable ∷ definition_of other variable ∷ []) (only_of same variable)

leads_by : (variables : ℕ) (look : Marks) (block number next variable operator : ℕ) (defined : Defined) (wanted : List ℕ) → variable < variables
    → Has variables look block number defined → (look next).entry variable ≡ wanted → defined variable ≡ Some operator → Among wanted operator
    → ((look next).entry variable ≡ []) ⊎ Offers variables look block number ((look next).entry variable)
leads_by variables look block number next variable operator defined wanted below has entry is listed =
    inr (record {
      operator = operator;
      listed = subst (λ (xs : List ℕ). Among xs operator) (sym entry) listed;
      passed = has variable operator below is;
    })

-- a way leads to a block with phis, if it has what they take from it, and what else is wanted
pub leads_either : (variables : ℕ) (look : Marks) (block number next : ℕ) (phis : List ℕ) (one other same defined : Defined)
    → ((variable : ℕ) → (look next).entry variable ≡ either_of phis one other same variable) → Has variables look block number defined
    → ((variable : ℕ) → variable < variables → among phis variable ≡ true
    → (is_some (defined variable) ≡ true) × ((definition_of one variable ≡ definition_of defined variable) ⊎ (definition_of other variable ≡ definition_of defined variable)))
    → ((variable operator : ℕ) → variable < variables → among phis variable ≡ false → same variable ≡ Some operator → defined variable ≡ Some operator)
    → Leads variables look block number next
leads_either variables look block number next phis one other same defined entry has phi_has other_has = λ variable below. by_phi variable below (among phis variable) refl
  where
    wanted_of : (variable : ℕ) (phi : Bool) → among phis variable ≡ phi
        → (look next).entry variable ≡ cond phi (definition_of one variable ∷ definition_of other variable ∷ []) (only_of same variable)
    wanted_of variable phi is =
        entry variable ∙ ap (λ (p : Bool). cond p (definition_of one variable ∷ definition_of other variable ∷ []) (only_of same variable)) is

    listed : (variable : ℕ) → (definition_of one variable ≡ definition_of defined variable) ⊎ (definition_of other variable ≡ definition_of defined variable)
        → Among (definition_of one variable ∷ definition_of other variable ∷ []) (definition_of defined variable)
    listed variable (inl is) = inl is
    listed variable (inr is) = inr (inl is)

    by_same : (variable : ℕ) → variable < variables → among phis variable ≡ false → (was : Option ℕ) → same variable ≡ was
        → ((look next).entry variable ≡ []) ⊎ Offers variables look block number ((look next).entry variable)
    by_same variable below none None is = inl (wanted_of variable false none ∙ ap (λ (d : Option ℕ). option_to_list d) is)
    by_same variable below none (Some operator) is =
        leads_by variables look block number next variable operator defined (operator ∷ []) below has
        (wanted_of variable false none ∙ ap (λ (d : Option ℕ). option_to_list d) is) (other_has variable operator below none is) (inl refl)

    by_phi : (variable : ℕ) → variable < variables → (phi : Bool) → among phis variable ≡ phi
        → ((look next).entry variable ≡ []) ⊎ Offers variables look block number ((look next).entry variable)
    by_phi variable below true is =
        let known = phi_has variable below is in
        leads_by variables look block number next variable (definition_of defined variable) defined (definition_of one variable ∷ definition_of other variable ∷ []) below has
        (wanted_of variable true is) (definition_is defined variable known.0) (listed variable known.1)
    by_phi variable below false is = by_same variable below is (same variable) refl

-- ---- the join of an `if`

abbrev pub join_test : List Weave → List Weave → Defined → Defined → ℕ → Bool
join_test on_true on_false one two variable = (assigned_in on_true variable || assigned_in on_false variable) && is_some (one variable) && is_some (two variable)

pub join_some : (variables : ℕ) (on_true on_false : List Weave) (one two : Defined) (variable : ℕ) → among (join_phis variables on_true on_false one two) variable ≡ true
    → Three (assigned_in on_true variable || assigned_in on_false variable) (is_some (one variable)) (is_some (two variable))
join_some variables on_true on_false one two variable phi =
    three (assigned_in on_true variable || assigned_in on_false variable) (is_some (one variable)) (is_some (two variable))
    (passes (join_test on_true on_false one two) _ variable phi)

pub leads_from_one : (variables : ℕ) (look : Marks) (block number join : ℕ) (on_true on_false : List Weave) (one two : Defined)
    → ((variable : ℕ) → (look join).entry variable ≡ either_of (join_phis variables on_true on_false one two) one two (on_both one two) variable)
    → Has variables look block number one → Leads variables look block number join
leads_from_one variables look block number join on_true on_false one two entry has =
    leads_either variables look block number join (join_phis variables on_true on_false one two) one two (on_both one two) one entry has
    (λ variable below phi. ((join_some variables on_true on_false one two variable phi).two, inl refl))
    (λ variable operator below none is. (both_parts (one variable) (two variable) operator is).first)

-- what both ways have without a phi is what was there before
pub same_before : (variables from middle last : ℕ) (on_true on_false : List Weave) (env one two : Defined) (variable operator : ℕ)
    → Ends variables from middle env one (assigned_in on_true) → Ends variables middle last env two (assigned_in on_false) → variable < variables
    → among (join_phis variables on_true on_false one two) variable ≡ false → on_both one two variable ≡ Some operator → two variable ≡ Some operator
same_before variables from middle last on_true on_false env one two variable operator first second below none is =
    let both = both_parts (one variable) (two variable) operator is in
    let never : (assigned_in on_true variable || assigned_in on_false variable) ≡ false =
    by_some (assigned_in on_true variable || assigned_in on_false variable) (is_some (one variable)) (is_some (two variable))
    (some_true (one variable) operator both.first) both.second (fails (join_test on_true on_false one two) variables variable below none) in
    let parts = or_parts (assigned_in on_true variable) (assigned_in on_false variable) never in
    second.keeps variable parts.1 ∙ (sym (first.keeps variable parts.0) ∙ both.first)
  where
    by_some : (a b c : Bool) → b ≡ true → c ≡ true → (a && b && c) ≡ false → a ≡ false
    by_some false b c left right is = refl
    by_some true true true left right is = absurd cc
    by_some true true false left right is = absurd cc
    by_some true false c left right is = absurd cc

pub leads_from_two : (variables : ℕ) (look : Marks) (block number join from middle last : ℕ) (on_true on_false : List Weave) (env one two : Defined)
    → Ends variables from middle env one (assigned_in on_true) → Ends variables middle last env two (assigned_in on_false)
    → ((variable : ℕ) → (look join).entry variable ≡ either_of (join_phis variables on_true on_false one two) one two (on_both one two) variable)
    → Has variables look block number two → Leads variables look block number join
leads_from_two variables look block number join from middle last on_true on_false env one two first second entry has =
    leads_either variables look block number join (join_phis variables on_true on_false one two) one two (on_both one two) two entry has
    (λ variable below phi. ((join_some variables on_true on_false one two variable phi).three, inr refl))
    (λ variable operator below none is. same_before variables from middle last on_true on_false env one two variable operator first second below none is)

phi_entry : (look : Marks) (block : ℕ) (phis : List ℕ) (one other same : Defined) (variable : ℕ)
    → ((v : ℕ) → (look block).entry v ≡ either_of phis one other same v) → among phis variable ≡ true
    → (look block).entry variable ≡ definition_of one variable ∷ definition_of other variable ∷ []
phi_entry look block phis one other same variable entry phi =
    entry variable ∙ ap (λ (p : Bool). cond p (definition_of one variable ∷ definition_of other variable ∷ []) (only_of same variable)) phi

-- the numbers of the blocks of an `if`: the first of each branch, and the join
pub record JoinAt (variables : ℕ) (look : Marks) (true_block false_block join number middle last : ℕ) (on_true on_false : List Weave) (one two : Defined) : Type 0 where
  pub true_start : (look true_block).start ≡ number
  pub false_start : (look false_block).start ≡ middle
  pub join_start : (look join).start ≡ last
  pub entry : (variable : ℕ) → (look join).entry variable ≡ either_of (join_phis variables on_true on_false one two) one two (on_both one two) variable

pub join_phis_good : (variables : ℕ) (look : Marks) (true_block false_block join number middle last : ℕ) (on_true on_false : List Weave) (env one two : Defined)
    → Ends variables number middle env one (assigned_in on_true) → Ends variables middle last env two (assigned_in on_false)
    → ((variable operator : ℕ) → variable < variables → env variable ≡ Some operator → operator < number)
    → JoinAt variables look true_block false_block join number middle last on_true on_false one two
    → Each (λ variable. GoodPhi variables look join (phi_of one two variable)) (join_phis variables on_true on_false one two)
join_phis_good variables look true_block false_block join number middle last on_true on_false env one two first second before at =
    each_map _ (λ variable. GoodPhi variables look join (phi_of one two variable)) (join_phis variables on_true on_false one two)
    (λ variable chosen. good variable chosen.0 chosen.1) (each_chosen (join_test on_true on_false one two) variables 0 variables (omega arith))
  where
    one_below : (variable operator : ℕ) → variable < variables → (env variable ≡ Some operator) ⊎ IsNew number middle operator → operator < middle
    one_below variable operator below (inl old) = let b = before variable operator below old in omega (arith, b, first.grows)
    one_below variable operator below (inr new) = new.below

    two_apart : (variable operator : ℕ) → variable < variables → (env variable ≡ Some operator) ⊎ IsNew middle last operator → (operator < number) ⊎ (middle ≤ operator)
    two_apart variable operator below (inl old) = inl (before variable operator below old)
    two_apart variable operator below (inr new) = inr new.from

    two_below : (variable operator : ℕ) → variable < variables → (env variable ≡ Some operator) ⊎ IsNew middle last operator → operator < last
    two_below variable operator below (inl old) = let b = before variable operator below old in omega (arith, b, first.grows, second.grows)
    two_below variable operator below (inr new) = new.below

    -- where the first branch assigns the variable
    split_true : (a b : ℕ) → number ≤ a → a < middle → (b < number) ⊎ (middle ≤ b) → Split look a b
    split_true a b low high (inl early) =
        record { block = true_block; between = inr (omega (arith, at.true_start, early), omega (arith, at.true_start, low)) }
    split_true a b low high (inr late) =
        record { block = false_block; between = inl (omega (arith, at.false_start, high), omega (arith, at.false_start, late)) }

    split_by : (variable a b : ℕ) → variable < variables → one variable ≡ Some a → two variable ≡ Some b
        → (assigned_in on_true variable ≡ true) ⊎ (assigned_in on_false variable ≡ true) → Split look a b
    split_by variable a b below is_one is_two (inl early) =
        let new = first.new variable a early below is_one in
        split_true a b new.from new.below (two_apart variable b below (second.old_or_new variable b is_two))
    split_by variable a b below is_one is_two (inr late) =
        let new = second.new variable b late below is_two in
        let low = one_below variable a below (first.old_or_new variable a is_one) in
        record { block = false_block; between = inl (omega (arith, at.false_start, low), omega (arith, at.false_start, new.from)) }

    good : (variable : ℕ) → variable < variables → join_test on_true on_false one two variable ≡ true → GoodPhi variables look join (phi_of one two variable)
    good variable below passed =
        let some = three (assigned_in on_true variable || assigned_in on_false variable) (is_some (one variable)) (is_some (two variable)) passed in
        let a = definition_of one variable in
        let b = definition_of two variable in
        let is_one = definition_is one variable some.two in
        let is_two = definition_is two variable some.three in
        let phi = phi_among (join_test on_true on_false one two) variables variable passed below in
        let low = one_below variable a below (first.old_or_new variable a is_one) in
        let high = two_below variable b below (second.old_or_new variable b is_two) in
        record {
          variable = variable;
          below = below;
          one = a;
          other = b;
          inputs = refl;
          entry = phi_entry look join (join_phis variables on_true on_false one two) one two (on_both one two) variable at.entry phi;
          apart = split_by variable a b below is_one is_two (by_either (assigned_in on_true variable) (assigned_in on_false variable) some.one);
          one_away = inl (omega (arith, low, at.join_start, second.grows));
          other_away = inl (omega (arith, high, at.join_start));
          bound = join;
          one_bound = omega (arith, low, at.join_start, second.grows);
          other_bound = omega (arith, high, at.join_start);
        }

pub join_has : (variables : ℕ) (look : Marks) (true_block false_block join number middle last : ℕ) (on_true on_false : List Weave) (env one two : Defined)
    → Ends variables number middle env one (assigned_in on_true) → Ends variables middle last env two (assigned_in on_false)
    → ((variable operator : ℕ) → variable < variables → env variable ≡ Some operator → operator < number)
    → JoinAt variables look true_block false_block join number middle last on_true on_false one two
    → Has variables look join (last + length (join_phis variables on_true on_false one two)) (with_phis (on_both one two) last (join_phis variables on_true on_false one two))
join_has variables look true_block false_block join number middle last on_true on_false env one two first second before at =
    phis_has variables look join last (on_both one two) (join_phis variables on_true on_false one two) at.join_start
    (λ variable below none. at.entry variable
    ∙ ap (λ (p : Bool). cond p (definition_of one variable ∷ definition_of two variable ∷ []) (only_of (on_both one two) variable)) none)
    (λ variable operator below is. one_below variable operator below (first.old_or_new variable operator (both_parts (one variable) (two variable) operator is).first))
  where
    one_below : (variable operator : ℕ) → variable < variables → (env variable ≡ Some operator) ⊎ IsNew number middle operator → operator < last
    one_below variable operator below (inl old) = let b = before variable operator below old in omega (arith, b, first.grows, second.grows)
    one_below variable operator below (inr new) = let b = new.below in omega (arith, b, second.grows)

-- ---- the header of a `while`

abbrev pub loop_test : List Weave → Defined → ℕ → Bool
loop_test body env variable = assigned_in body variable && is_some (env variable)

pub record HeaderAt (variables : ℕ) (look : Marks) (header number : ℕ) (body : List Weave) (env turn : Defined) : Type 0 where
  pub start : (look header).start ≡ number
  pub entry : (variable : ℕ) → (look header).entry variable ≡ either_of (loop_phis variables body env) env turn env variable

pub leads_before : (variables : ℕ) (look : Marks) (block number header : ℕ) (body : List Weave) (env turn : Defined)
    → ((variable : ℕ) → (look header).entry variable ≡ either_of (loop_phis variables body env) env turn env variable)
    → Has variables look block number env → Leads variables look block number header
leads_before variables look block number header body env turn entry has =
    leads_either variables look block number header (loop_phis variables body env) env turn env env entry has
    (λ variable below phi. ((both_are (assigned_in body variable) (is_some (env variable)) (passes (loop_test body env) _ variable phi)).1, inl refl))
    (λ variable operator below none is. is)

-- what is there before a loop without a phi is there at the end of its body
pub same_around : (variables first from last : ℕ) (body : List Weave) (env turn : Defined) (variable operator : ℕ)
    → Ends variables from last (with_phis env first (loop_phis variables body env)) turn (assigned_in body) → variable < variables
    → among (loop_phis variables body env) variable ≡ false → env variable ≡ Some operator → turn variable ≡ Some operator
same_around variables first from last body env turn variable operator ends below none is =
    let never : assigned_in body variable ≡ false =
    by_some (assigned_in body variable) (is_some (env variable)) (some_true (env variable) operator is) (fails (loop_test body env) variables variable below none) in
    ends.keeps variable never ∙ (phis_keep env first (loop_phis variables body env) variable none ∙ is)
  where
    by_some : (a b : Bool) → b ≡ true → (a && b) ≡ false → a ≡ false
    by_some false b some is = refl
    by_some true b some is = absurd cc

pub leads_back : (variables : ℕ) (look : Marks) (block number header first from last : ℕ) (body : List Weave) (env turn : Defined)
    → Ends variables from last (with_phis env first (loop_phis variables body env)) turn (assigned_in body)
    → ((variable : ℕ) → is_some (env variable) ≡ true → is_some (with_phis env first (loop_phis variables body env) variable) ≡ true)
    → ((variable : ℕ) → (look header).entry variable ≡ either_of (loop_phis variables body env) env turn env variable)
    → Has variables look block number turn → Leads variables look block number header
leads_back variables look block number header first from last body env turn ends stays entry has =
    leads_either variables look block number header (loop_phis variables body env) env turn env turn entry has
    (λ variable below phi.
    (ends.stays variable (stays variable (both_are (assigned_in body variable) (is_some (env variable)) (passes (loop_test body env) _ variable phi)).1), inr refl))
    (λ variable operator below none is. same_around variables first from last body env turn variable operator ends below none is)

pub loop_phis_good : (variables : ℕ) (look : Marks) (header inner exit number from last : ℕ) (body : List Weave) (env turn : Defined)
    → Ends variables from last (with_phis env number (loop_phis variables body env)) turn (assigned_in body)
    → ((variable : ℕ) → is_some (env variable) ≡ true → is_some (with_phis env number (loop_phis variables body env) variable) ≡ true)
    → ((variable operator : ℕ) → variable < variables → env variable ≡ Some operator → operator < number)
    → HeaderAt variables look header number body env turn → header < inner → (look inner).start ≡ from → number < from → (look exit).start ≡ last
    → Each (λ variable. GoodPhi variables look header (phi_of env turn variable)) (loop_phis variables body env)
loop_phis_good variables look header inner exit number from last body env turn ends stays before at follows inner_start more exit_start =
    each_map _ (λ variable. GoodPhi variables look header (phi_of env turn variable)) (loop_phis variables body env)
    (λ variable chosen. good variable chosen.0 chosen.1) (each_chosen (loop_test body env) variables 0 variables (omega arith))
  where
    good : (variable : ℕ) → variable < variables → loop_test body env variable ≡ true → GoodPhi variables look header (phi_of env turn variable)
    good variable below passed =
        let some = both_are (assigned_in body variable) (is_some (env variable)) passed in
        let is_one = definition_is env variable some.1 in
        let is_two = definition_is turn variable (ends.stays variable (stays variable some.1)) in
        let low = before variable (definition_of env variable) below is_one in
        let new = ends.new variable (definition_of turn variable) some.0 below is_two in
        let from_new = new.from in
        let below_new = new.below in
        let phi = phi_among (loop_test body env) variables variable passed below in
        record {
          variable = variable;
          below = below;
          one = definition_of env variable;
          other = definition_of turn variable;
          inputs = refl;
          entry = phi_entry look header (loop_phis variables body env) env turn env variable at.entry phi;
          apart = record { block = inner; between = inl (omega (arith, low, inner_start, more), omega (arith, from_new, inner_start)) };
          one_away = inl (omega (arith, low, at.start));
          other_away = inr (record { later = inner; after = follows; some = omega (arith, inner_start, more); from = omega (arith, from_new, inner_start) });
          bound = exit;
          one_bound = omega (arith, low, exit_start, more, from_new, below_new);
          other_bound = omega (arith, below_new, exit_start);
        }

pub header_has : (variables : ℕ) (look : Marks) (header number : ℕ) (body : List Weave) (env turn : Defined)
    → ((variable operator : ℕ) → variable < variables → env variable ≡ Some operator → operator < number)
    → HeaderAt variables look header number body env turn
    → Has variables look header (number + length (loop_phis variables body env)) (with_phis env number (loop_phis variables body env))
header_has variables look header number body env turn before at =
    phis_has variables look header number env (loop_phis variables body env) at.start
    (λ variable below none. at.entry variable
    ∙ ap (λ (p : Bool). cond p (definition_of env variable ∷ definition_of turn variable ∷ []) (only_of env variable)) none)
    before
