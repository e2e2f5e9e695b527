-- How statements run, part by part.
use Rattle.std.proofs.Common.{◌≡◌, ℕ, zero, suc, ◌+◌, ◌<◌, ◌≤◌, Bool, true, false, nat_lt, List, [], ◌∷◌, length}
use Rattle.std.proofs.Common.{drop, get_or, refl, sym, ap, subst, ◌∙◌, arith}
use Rattle.std.proofs.lemmas.List.{drop_all}
use Rattle.box_handlers.specs.declared.act.Query.{Query}
use Rattle.box_handlers.specs.declared.act.Change.{Change}
use Rattle.box_handlers.specs.declared.act.Act.{Act}
use Rattle.box_handlers.specs.declared.act.Act.TheVariants as act
use Rattle.box_handlers.specs.declared.act.Act.TheOpen.{Act-F}
use Rattle.box_handlers.specs.declared.act.Act.TheViews.{out-Act}
use Rattle.box_handlers.specs.declared.act.Act.TheFolds.{map-Act, fold_out-Act}
use Rattle.box_handlers.specs.declared.act.Branch.{Branch}
use Rattle.box_handlers.specs.Body.{Body, Stop, Writes, Emit, Fork, Each, Branches, act_layer}
use Rattle.box_handlers.specs.Body.{branch_layer, before_of_act, before_of_branch, body_of, branches_of, formula_of}
use Rattle.box_handlers.proofs.BodyLemmas.{bodies_read}
use Rattle.handler_runs.specs.declared.progress.Course.{Course}
use Rattle.handler_runs.specs.declared.progress.Course.TheVariants as course
use Rattle.handler_runs.specs.Code.{goes_on, course_is}
use Rattle.handler_runs.specs.Reading.{Scene, with_value, holds_by, any_holds}
use Rattle.handler_runs.specs.Run.{Standing, Answer, Goes, Aborts, Stuck, then_by, with_left, by_choice, where_true}
use Rattle.handler_runs.specs.Run.{at_fork, value_block, run, run_branch}
use Rattle.handler_runs.proofs.GuardLemmas.{next_part}

pub then_goes : (scene : Scene) (answer : Answer) → then_by answer (run Stop scene) ≡ answer
then_goes scene (Goes now) = refl
then_goes scene (Aborts left) = refl
then_goes scene (Stuck left) = refl

-- a statement runs, and then those behind it
layer_apart : (layer : Act-F (Body → Body) (Branches → Branches)) (rest : Body) (scene : Scene) (now : Standing) →
    run (act_layer layer rest) scene now ≡ then_by (run (act_layer layer Stop) scene now) (run rest scene)
layer_apart (Act-F.Insert query) rest scene now = refl
layer_apart (Act-F.Remove query) rest scene now = refl
layer_apart (Act-F.Output port changes) rest scene now = refl
layer_apart Act-F.Abort rest scene now = refl
layer_apart (Act-F.Choose branches) rest scene now =
    ap (λ a. then_by a (run rest scene)) (sym (then_goes scene _))
layer_apart (Act-F.Pick values body) rest scene now =
    ap (λ a. then_by a (run rest scene)) (sym (then_goes scene _))

act_apart : (one : Act) (rest : Body) (scene : Scene) (now : Standing) →
    run (before_of_act one rest) scene now ≡ then_by (run (before_of_act one Stop) scene now) (run rest scene)
unfolding before_of_act before_of_branch
act_apart one rest scene now =
    subst (λ f. run (f rest) scene now ≡ then_by (run (f Stop) scene now) (run rest scene))
    (sym (fold_out-Act (Body → Body) (Branches → Branches) act_layer branch_layer one))
    (layer_apart
    (map-Act Act Branch (Body → Body) (Branches → Branches) before_of_act before_of_branch (out-Act one)) rest scene
    now)

going : (course : Course) (now : Standing) → goes_on course ≡ true → course_is course now ≡ Goes now
going course.Goes now e = refl
going course.Aborts now e = absurd (let wrong : ◌≡◌ {A = Bool} false true = e in cc)
going course.Stuck now e = absurd (let wrong : ◌≡◌ {A = Bool} false true = e in cc)

ending : (course : Course) (now : Standing) (rest : Standing → Answer) → goes_on course ≡ false →
    then_by (course_is course now) rest ≡ course_is course now
ending course.Goes now rest e = absurd (let wrong : ◌≡◌ {A = Bool} true false = e in cc)
ending course.Aborts now rest e = refl
ending course.Stuck now rest e = refl

module _ (scene : Scene) where
  abbrev pub acts_from : List Act → Standing → Answer
  acts_from acts now = run (body_of acts) scene now

  abbrev pub one_act : Act → Standing → Answer
  one_act one now = run (body_of (one ∷ [])) scene now

  act_step : (acts : List Act) (i : ℕ) (one : Act) (now : Standing) → i < length acts → one ≡ get_or acts i one →
      acts_from (drop i acts) now ≡ then_by (one_act one now) (run (body_of (drop (i + 1) acts)) scene)
  act_step acts i one now inside here =
      ap (λ l. acts_from l now) (next_part acts i one inside here)
      ∙ act_apart one (body_of (drop (i + 1) acts)) scene now

  -- the next statement goes on
  pub act_goes : (acts : List Act) (i : ℕ) (one : Act) (start now after : Standing) (course : Course) →
      i < length acts → one ≡ get_or acts i one → acts_from acts start ≡ acts_from (drop i acts) now →
      one_act one now ≡ course_is course after → goes_on course ≡ true →
      acts_from acts start ≡ acts_from (drop (i + 1) acts) after
  act_goes acts i one start now after course inside here so_far is goes =
      so_far ∙ act_step acts i one now inside here
      ∙ ap (λ a. then_by a (run (body_of (drop (i + 1) acts)) scene)) (is ∙ going course after goes)

  -- it doesn't
  pub act_ends : (acts : List Act) (i : ℕ) (one : Act) (start now after : Standing) (course : Course) →
      i < length acts → one ≡ get_or acts i one → acts_from acts start ≡ acts_from (drop i acts) now →
      one_act one now ≡ course_is course after → goes_on course ≡ false →
      acts_from acts start ≡ course_is course after
  act_ends acts i one start now after course inside here so_far is ends =
      so_far ∙ act_step acts i one now inside here
      ∙ ap (λ a. then_by a (run (body_of (drop (i + 1) acts)) scene)) is
      ∙ ending course after (run (body_of (drop (i + 1) acts)) scene) ends

  pub acts_done : (acts : List Act) (i : ℕ) (start now : Standing) → length acts ≤ i →
      acts_from acts start ≡ acts_from (drop i acts) now → acts_from acts start ≡ Goes now
  acts_done acts i start now all so_far = so_far ∙ ap (λ l. acts_from l now) (drop_all i acts all)

  -- each form of a statement
  pub insert_is : (query : Query) (now : Standing) →
      one_act (act.Insert query) now ≡ run (Writes query true Stop) scene now
  insert_is query now = ap (λ b. run b scene now) (bodies_read.insert query [])

  pub remove_is : (query : Query) (now : Standing) →
      one_act (act.Remove query) now ≡ run (Writes query false Stop) scene now
  remove_is query now = ap (λ b. run b scene now) (bodies_read.remove query [])

  pub output_is : (port : ℕ) (changes : List Change) (now : Standing) →
      one_act (act.Output port changes) now ≡ run (Emit port changes Stop) scene now
  output_is port changes now = ap (λ b. run b scene now) (bodies_read.output port changes [])

  pub abort_is : (now : Standing) → one_act act.Abort now ≡ Aborts now.left
  abort_is now = ap (λ b. run b scene now) (bodies_read.abort [])

  pub choose_is : (branches : List Branch) (now : Standing) →
      one_act (act.Choose branches) now ≡ run (Fork (branches_of branches) Stop) scene now
  choose_is branches now = ap (λ b. run b scene now) (bodies_read.choose branches [])

  pub pick_is : (values : ℕ) (body : List Act) (now : Standing) →
      one_act (act.Pick values body) now ≡ run (Each values (body_of body) Stop) scene now
  pick_is values body now = ap (λ b. run b scene now) (bodies_read.pick values body [])

  -- a choice
  pub fork_shut : (branches : List Branch) (now : Standing) (found : Bool) →
      found ≡ any_holds scene now.contents (branches_of branches) → found ≡ false →
      run (Fork (branches_of branches) Stop) scene now ≡ Goes now
  fork_shut branches now found is shut =
      ap (λ b. then_by (at_fork b (run_branch (branches_of branches) scene) now) (run Stop scene)) (sym is ∙ shut)

  pub fork_open : (branches : List Branch) (now : Standing) (found : Bool) (answer : Answer) →
      found ≡ any_holds scene now.contents (branches_of branches) → found ≡ true →
      by_choice (run_branch (branches_of branches) scene) now now.left ≡ answer →
      run (Fork (branches_of branches) Stop) scene now ≡ answer
  fork_open branches now found answer is opened runs =
      ap (λ b. then_by (at_fork b (run_branch (branches_of branches) scene) now) (run Stop scene)) (sym is ∙ opened)
      ∙ then_goes scene (by_choice (run_branch (branches_of branches) scene) now now.left) ∙ runs

  -- the branch of a number
  pub branch_there : (branches : List Branch) (number : ℕ) (whole : List ℕ) (now : Standing) (branch : Branch) →
      number < length branches → branch ≡ get_or branches number branch →
      run_branch (branches_of branches) scene number whole now
      ≡ where_true (holds_by scene now.contents (formula_of branch.guard)) whole (run (body_of branch.body) scene now)
  branch_there [] number whole now branch less is = absurd (omega (arith, less))
  branch_there (first ∷ more) zero whole now branch less is =
      ap (λ b. run_branch b scene zero whole now) (bodies_read.branch first more)
      ∙ ap (λ (b : Branch). where_true (holds_by scene now.contents (formula_of b.guard)) whole
      (run (body_of b.body) scene now)) (sym is)
  branch_there (first ∷ more) (suc number) whole now branch less is =
      ap (λ b. run_branch b scene (suc number) whole now) (bodies_read.branch first more)
      ∙ branch_there more number whole now branch (omega (arith, less)) is

  pub no_branch : (branches : List Branch) (number : ℕ) (whole : List ℕ) (now : Standing) → length branches ≤ number →
      run_branch (branches_of branches) scene number whole now ≡ Stuck whole
  no_branch [] number whole now past = refl
  no_branch (first ∷ more) zero whole now past = absurd (omega (arith, past))
  no_branch (first ∷ more) (suc number) whole now past =
      ap (λ b. run_branch b scene (suc number) whole now) (bodies_read.branch first more)
      ∙ no_branch more number whole now (omega (arith, past))

-- the next choice
pub choice_made : (block : ℕ → List ℕ → Standing → Answer) (now : Standing) (left : List ℕ)
    (choice d : ℕ) → 0 < length left →
    choice ≡ get_or left 0 d → by_choice block now left ≡ block choice left (with_left now (drop 1 left))
choice_made block now [] choice d some is = absurd (omega (arith, some))
choice_made block now (first ∷ others) choice d some is =
    ap (λ c. block c (first ∷ others) (with_left now others)) (sym is)

pub no_choice : (block : ℕ → List ℕ → Standing → Answer) (now : Standing) (left : List ℕ) → length left ≤ 0 →
    by_choice block now left ≡ Stuck left
no_choice block now [] none = refl
no_choice block now (first ∷ others) none = absurd (omega (arith, none))

-- a test before a block
pub test_fails : (test found : Bool) (whole : List ℕ) (answer : Answer) → found ≡ test → found ≡ false →
    where_true test whole answer ≡ Stuck whole
test_fails test found whole answer is fails = ap (λ b. where_true b whole answer) (sym is ∙ fails)

pub test_passes : (test found : Bool) (whole : List ℕ) (answer other : Answer) → found ≡ test → found ≡ true →
    answer ≡ other → where_true test whole answer ≡ other
test_passes test found whole answer other is passes same = ap (λ b. where_true b whole answer) (sym is ∙ passes) ∙ same

-- a pick
pub value_made : (scene : Scene) (values : ℕ) (body : Body) (now : Standing) (value d : ℕ) (answer : Answer) →
    0 < length now.left → value ≡ get_or now.left 0 d →
    where_true (nat_lt value values) now.left
    (run body (with_value scene value) (with_left now (drop 1 now.left))) ≡ answer →
    run (Each values body Stop) scene now ≡ answer
value_made scene values body now value d answer some is runs =
    then_goes scene
    (by_choice (value_block values (λ value. run body (with_value scene value))) now now.left)
    ∙ choice_made (value_block values (λ value. run body (with_value scene value))) now now.left value d some is ∙ runs

pub no_value : (scene : Scene) (values : ℕ) (body : Body) (now : Standing) → length now.left ≤ 0 →
    run (Each values body Stop) scene now ≡ Stuck now.left
no_value scene values body now none =
    then_goes scene
    (by_choice (value_block values (λ value. run body (with_value scene value))) now now.left)
    ∙ no_choice (value_block values (λ value. run body (with_value scene value))) now now.left none
