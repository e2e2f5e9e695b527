-- How large blocks and choices are.
use Rattle.std.proofs.Common.{◌≡◌, ℕ, ◌+◌, ◌-◌, ◌*◌, ◌^◌, ◌<◌, ◌≤◌, List, [], ◌∷◌, ◌++◌, length, take, get_or, min}
use Rattle.std.proofs.Common.{refl, sym, ap, subst, ◌∙◌}
use Rattle.std.proofs.lemmas.List.{take_all, take_more}
use Rattle.std.proofs.lemmas.List.Sums.{sum_by-cons}
use Rattle.std.proofs.Math.Nat.{add-zero, zero-add, add_assoc, add_comm, mul-one, one-mul, mul_assoc, mul_comm}
use Rattle.box_handlers.specs.declared.act.Change.{Change}
use Rattle.box_handlers.specs.declared.act.Query.{Query}
use Rattle.box_handlers.specs.declared.act.Act.{Act}
use Rattle.box_handlers.specs.declared.act.Act.TheVariants as act
use Rattle.box_handlers.specs.declared.act.Act.TheOpen.{Act-F}
use Rattle.box_handlers.specs.declared.act.Act.TheViews.{out-Act}
use Rattle.box_handlers.specs.declared.act.Act.TheFolds.{map-Act, fold_out-Act}
use Rattle.box_handlers.specs.declared.act.Branch.{Branch}
use Rattle.box_handlers.specs.Body.{
  Body,
  Stop,
  Fork,
  Each,
  Branches,
  NoBranch,
  OneBranch,
  act_layer,
  branch_layer,
  before_of_act,
  before_of_branch,
  body_of,
  branches_of,
  formula_of,
}
use Rattle.box_handlers.specs.Size.{
  literals_in,
  literals_of,
  literals_of_all,
  literals_of_branches,
  statements_of,
  statements_of_all,
  statements_of_branches,
  paths_of,
  paths_of_branches,
}
use Rattle.box_handlers.proofs.BodyLemmas.{bodies_read}
use Rattle.handler_sizes.specs.declared.size.Size.{Size}
use Rattle.handler_sizes.specs.Capped.{capped, sized, size_of, size_of_branches}
use Rattle.handler_sizes.proofs.CapLemmas.{add_capped, mul_capped, add_by, mul_by, counts_more}

-- a statement counts with those behind it
statements_laid : (layer : Act-F (Body → Body) (Branches → Branches)) (rest : Body) →
    statements_of (act_layer layer rest) ≡ statements_of (act_layer layer Stop) + statements_of rest
statements_laid (Act-F.Insert query) rest = refl
statements_laid (Act-F.Remove query) rest = refl
statements_laid (Act-F.Output port changes) rest = refl
statements_laid Act-F.Abort rest = refl
statements_laid (Act-F.Choose branches) rest = ap (λ t. t + statements_of rest) (sym (add-zero _))
statements_laid (Act-F.Pick values body) rest = ap (λ t. t + statements_of rest) (sym (add-zero _))

literals_laid : (layer : Act-F (Body → Body) (Branches → Branches)) (rest : Body) →
    literals_of (act_layer layer rest) ≡ literals_of (act_layer layer Stop) + literals_of rest
literals_laid (Act-F.Insert query) rest = sym (zero-add (literals_of rest))
literals_laid (Act-F.Remove query) rest = sym (zero-add (literals_of rest))
literals_laid (Act-F.Output port changes) rest = sym (zero-add (literals_of rest))
literals_laid Act-F.Abort rest = sym (zero-add (literals_of rest))
literals_laid (Act-F.Choose branches) rest = ap (λ t. t + literals_of rest) (sym (add-zero _))
literals_laid (Act-F.Pick values body) rest = ap (λ t. t + literals_of rest) (sym (add-zero _))

paths_laid : (layer : Act-F (Body → Body) (Branches → Branches)) (rest : Body) →
    paths_of (act_layer layer rest) ≡ paths_of (act_layer layer Stop) * paths_of rest
paths_laid (Act-F.Insert query) rest = sym (one-mul (paths_of rest))
paths_laid (Act-F.Remove query) rest = sym (one-mul (paths_of rest))
paths_laid (Act-F.Output port changes) rest = sym (one-mul (paths_of rest))
paths_laid Act-F.Abort rest = sym (one-mul (paths_of rest))
paths_laid (Act-F.Choose branches) rest = ap (λ t. t * paths_of rest) (sym (mul-one _))
paths_laid (Act-F.Pick values body) rest = ap (λ t. t * paths_of rest) (sym (mul-one _))

-- what of a statement with a rest is said for each layer is said of each statement
of_layers : (P : (Body → Body) → Type 0) → ((layer : Act-F (Body → Body) (Branches → Branches)) → P (act_layer layer)) →
    (one : Act) → P (before_of_act one)
unfolding before_of_act before_of_branch
of_layers P each one =
    subst P (sym (fold_out-Act (Body → Body) (Branches → Branches) act_layer branch_layer one))
    (each (map-Act Act Branch (Body → Body) (Branches → Branches) before_of_act before_of_branch (out-Act one)))

statements_apart : (one : Act) (rest : Body) →
    statements_of (before_of_act one rest) ≡ statements_of (before_of_act one Stop) + statements_of rest
statements_apart one rest =
    of_layers (λ f. statements_of (f rest) ≡ statements_of (f Stop) + statements_of rest)
    (λ layer. statements_laid layer rest) one

literals_apart : (one : Act) (rest : Body) →
    literals_of (before_of_act one rest) ≡ literals_of (before_of_act one Stop) + literals_of rest
literals_apart one rest =
    of_layers (λ f. literals_of (f rest) ≡ literals_of (f Stop) + literals_of rest)
    (λ layer. literals_laid layer rest) one

paths_apart : (one : Act) (rest : Body) →
    paths_of (before_of_act one rest) ≡ paths_of (before_of_act one Stop) * paths_of rest
paths_apart one rest =
    of_layers (λ f. paths_of (f rest) ≡ paths_of (f Stop) * paths_of rest) (λ layer. paths_laid layer rest) one

-- a statement more
statements_last : (acts : List Act) (one : Act) →
    statements_of (body_of (acts ++ one ∷ [])) ≡ statements_of (body_of acts) + statements_of (body_of (one ∷ []))
statements_last [] one = sym (zero-add (statements_of (body_of (one ∷ []))))
statements_last (x ∷ xs) one =
    statements_apart x (body_of (xs ++ one ∷ []))
    ∙ ap (λ t. statements_of (before_of_act x Stop) + t) (statements_last xs one)
    ∙ sym (add_assoc (statements_of (before_of_act x Stop)) (statements_of (body_of xs))
    (statements_of (body_of (one ∷ []))))
    ∙ ap (λ t. t + statements_of (body_of (one ∷ []))) (sym (statements_apart x (body_of xs)))

literals_last : (acts : List Act) (one : Act) →
    literals_of (body_of (acts ++ one ∷ [])) ≡ literals_of (body_of acts) + literals_of (body_of (one ∷ []))
literals_last [] one = sym (zero-add (literals_of (body_of (one ∷ []))))
literals_last (x ∷ xs) one =
    literals_apart x (body_of (xs ++ one ∷ []))
    ∙ ap (λ t. literals_of (before_of_act x Stop) + t) (literals_last xs one)
    ∙ sym (add_assoc (literals_of (before_of_act x Stop)) (literals_of (body_of xs)) (literals_of (body_of (one ∷ []))))
    ∙ ap (λ t. t + literals_of (body_of (one ∷ []))) (sym (literals_apart x (body_of xs)))

paths_last : (acts : List Act) (one : Act) →
    paths_of (body_of (acts ++ one ∷ [])) ≡ paths_of (body_of acts) * paths_of (body_of (one ∷ []))
paths_last [] one = sym (one-mul (paths_of (body_of (one ∷ []))))
paths_last (x ∷ xs) one =
    paths_apart x (body_of (xs ++ one ∷ []))
    ∙ ap (λ t. paths_of (before_of_act x Stop) * t) (paths_last xs one)
    ∙ sym (mul_assoc (paths_of (before_of_act x Stop)) (paths_of (body_of xs)) (paths_of (body_of (one ∷ []))))
    ∙ ap (λ t. t * paths_of (body_of (one ∷ []))) (sym (paths_apart x (body_of xs)))

-- the size of a part with another behind it
both : Size → Size → Size
both one two = sized (one.statements + two.statements) (one.literals + two.literals) (one.paths * two.paths)

size_last : (acts : List Act) (one : Act) →
    both (size_of (body_of acts)) (size_of (body_of (one ∷ []))) ≡ size_of (body_of (acts ++ one ∷ []))
unfolding both
size_last acts one = λ k. record {
  statements =
      (add_capped (2 ^ 64 - 1) (statements_of (body_of acts)) (statements_of (body_of (one ∷ [])))
      ∙ ap (λ t. capped t) (sym (statements_last acts one))) k;
  literals =
      (add_capped (2 ^ 64 - 1) (literals_of (body_of acts)) (literals_of (body_of (one ∷ [])))
      ∙ ap (λ t. capped t) (sym (literals_last acts one))) k;
  paths =
      (mul_capped (2 ^ 64 - 1) (paths_of (body_of acts)) (paths_of (body_of (one ∷ [])))
      ∙ ap (λ t. capped t) (sym (paths_last acts one))) k;
}

pub block_more : (acts : List Act) (i : ℕ) (one : Act) (now part new : Size) → i < length acts →
    one ≡ get_or acts i one →
    now ≡ size_of (body_of (take i acts)) → part ≡ size_of (body_of (one ∷ [])) →
    new ≡ sized (now.statements + part.statements) (now.literals + part.literals) (now.paths * part.paths) →
    new ≡ size_of (body_of (take (i + 1) acts))
unfolding both
block_more acts i one now part new inside here so_far is made =
    made ∙ (λ k. both (so_far k) (is k)) ∙ size_last (take i acts) one
    ∙ ap (λ y. size_of (body_of (take i acts ++ y ∷ []))) here
    ∙ ap (λ ys. size_of (body_of ys)) (sym (take_more acts i one inside))

pub block_done : (acts : List Act) (i : ℕ) (now : Size) → length acts ≤ i → now ≡ size_of (body_of (take i acts)) →
    now ≡ size_of (body_of acts)
block_done acts i now all so_far = so_far ∙ ap (λ t. size_of (body_of t)) (take_all i acts all)

-- the branches of a choice
module _ (branch : Branch) (more : List Branch) where
  statements_beside : statements_of_branches (branches_of (branch ∷ more))
      ≡ statements_of_branches (OneBranch (formula_of branch.guard) (body_of branch.body) NoBranch)
      + statements_of_branches (branches_of more)
  statements_beside =
      ap statements_of_branches (bodies_read.branch branch more)
      ∙ ap (λ t. t + statements_of_branches (branches_of more)) (sym (add-zero (statements_of (body_of branch.body))))

  literals_beside : literals_of_branches (branches_of (branch ∷ more))
      ≡ literals_of_branches (OneBranch (formula_of branch.guard) (body_of branch.body) NoBranch)
      + literals_of_branches (branches_of more)
  literals_beside =
      ap literals_of_branches (bodies_read.branch branch more)
      ∙ ap (λ t. t + literals_of_branches (branches_of more))
      (sym (add-zero (literals_in (formula_of branch.guard) + literals_of (body_of branch.body))))

  paths_beside : paths_of_branches (branches_of (branch ∷ more))
      ≡ paths_of_branches (OneBranch (formula_of branch.guard) (body_of branch.body) NoBranch)
      + paths_of_branches (branches_of more)
  paths_beside =
      ap paths_of_branches (bodies_read.branch branch more)
      ∙ ap (λ t. t + paths_of_branches (branches_of more)) (sym (add-zero (paths_of (body_of branch.body))))

pub branches_more : (branches : List Branch) (i : ℕ) (branch : Branch) (now part new : Size) → i < length branches →
    branch ≡ get_or branches i branch → now ≡ size_of_branches (branches_of (take i branches)) →
    part ≡ size_of_branches (OneBranch (formula_of branch.guard) (body_of branch.body) NoBranch) →
    new ≡ sized (now.statements + part.statements) (now.literals + part.literals) (now.paths + part.paths) →
    new ≡ size_of_branches (branches_of (take (i + 1) branches))
branches_more branches i branch now part new inside here so_far is made =
    made
    ∙ (λ k. record {
      statements =
          counts_more (λ bs. statements_of_branches (branches_of bs))
          (λ b. statements_of_branches
          (OneBranch (formula_of b.guard) (body_of b.body) NoBranch)) refl statements_beside
          branches i branch now.statements part.statements inside here (λ j. (so_far j).statements)
          (λ j. (is j).statements) k;
      literals =
          counts_more (λ bs. literals_of_branches (branches_of bs))
          (λ b. literals_of_branches (OneBranch (formula_of b.guard) (body_of b.body) NoBranch)) refl literals_beside
          branches i branch now.literals part.literals inside here (λ j. (so_far j).literals) (λ j. (is j).literals) k;
      paths =
          counts_more (λ bs. paths_of_branches (branches_of bs))
          (λ b. paths_of_branches (OneBranch (formula_of b.guard) (body_of b.body) NoBranch)) refl paths_beside
          branches i branch now.paths part.paths inside here (λ j. (so_far j).paths) (λ j. (is j).paths) k;
    })

pub branches_done : (branches : List Branch) (i : ℕ) (now : Size) → length branches ≤ i →
    now ≡ size_of_branches (branches_of (take i branches)) → now ≡ size_of_branches (branches_of branches)
branches_done branches i now all so_far = so_far ∙ ap (λ t. size_of_branches (branches_of t)) (take_all i branches all)

-- each form of a statement
pub insert_size : (query : Query) →
    size_of (body_of (act.Insert query ∷ [])) ≡ record { statements = 1; literals = 0; paths = 1 }
insert_size query = ap size_of (bodies_read.insert query [])

pub remove_size : (query : Query) →
    size_of (body_of (act.Remove query ∷ [])) ≡ record { statements = 1; literals = 0; paths = 1 }
remove_size query = ap size_of (bodies_read.remove query [])

pub output_size : (port : ℕ) (changes : List Change) →
    size_of (body_of (act.Output port changes ∷ [])) ≡ record { statements = 1; literals = 0; paths = 1 }
output_size port changes = ap size_of (bodies_read.output port changes [])

pub abort_size : size_of (body_of (act.Abort ∷ [])) ≡ record { statements = 1; literals = 0; paths = 1 }
abort_size = ap size_of (bodies_read.abort [])

pub choose_size : (branches : List Branch) →
    size_of (body_of (act.Choose branches ∷ [])) ≡ size_of (Fork (branches_of branches) Stop)
choose_size branches = ap size_of (bodies_read.choose branches [])

pub pick_size : (values : ℕ) (body : List Act) →
    size_of (body_of (act.Pick values body ∷ [])) ≡ size_of (Each values (body_of body) Stop)
pick_size values body = ap size_of (bodies_read.pick values body [])

pub picked_size : (values wide statements paths : ℕ) (body : Body) (block : Size) → block ≡ size_of body →
    wide ≡ values →
    statements ≡ min (block.statements + 1) (2 ^ 64 - 1) → paths ≡ min (block.paths * wide) (2 ^ 64 - 1) →
    record { statements = statements; literals = block.literals; paths = paths } ≡ size_of (Each values body Stop)
picked_size values wide statements paths body block is same counted multiplied = λ k. record {
  statements =
      (counted ∙ ap (λ s. min (s.statements + 1) (2 ^ 64 - 1)) is ∙ add_by (2 ^ 64 - 1) (statements_of body) 1
      ∙ ap (λ t. capped t) (add_comm (statements_of body) 1 ∙ sym (add-zero (1 + statements_of body)))) k;
  literals = (ap (λ s. s.literals) is ∙ ap (λ t. capped t) (sym (add-zero (literals_of body)))) k;
  paths =
      (multiplied ∙ (λ j. min ((is j).paths * same j) (2 ^ 64 - 1)) ∙ mul_by (2 ^ 64 - 1) (paths_of body) values
      ∙ ap (λ t. capped t) (mul_comm (paths_of body) values ∙ sym (mul-one (values * paths_of body)))) k;
}

-- of all handlers
pub statements_more : (handlers : List (List Act)) (i : ℕ) (acts : List Act) (now : ℕ) (block : Size) →
    i < length handlers →
    acts ≡ get_or handlers i acts → now ≡ capped (statements_of_all (take i handlers)) →
    block ≡ size_of (body_of acts) →
    min (now + block.statements) (2 ^ 64 - 1) ≡ capped (statements_of_all (take (i + 1) handlers))
statements_more handlers i acts now block inside here so_far is =
    counts_more statements_of_all (λ acts. statements_of (body_of acts)) refl
    (sum_by-cons (λ acts. statements_of (body_of acts))) handlers i acts now
    block.statements inside here so_far (λ j. (is j).statements)

pub statements_done : (handlers : List (List Act)) (i now : ℕ) → length handlers ≤ i →
    now ≡ capped (statements_of_all (take i handlers)) → now ≡ capped (statements_of_all handlers)
statements_done handlers i now all so_far = so_far ∙ ap (λ t. capped (statements_of_all t)) (take_all i handlers all)

pub literals_more : (handlers : List (List Act)) (i : ℕ) (acts : List Act) (now : ℕ) (block : Size) →
    i < length handlers →
    acts ≡ get_or handlers i acts → now ≡ capped (literals_of_all (take i handlers)) → block ≡ size_of (body_of acts) →
    min (now + block.literals) (2 ^ 64 - 1) ≡ capped (literals_of_all (take (i + 1) handlers))
literals_more handlers i acts now block inside here so_far is =
    counts_more literals_of_all (λ acts. literals_of (body_of acts)) refl
    (sum_by-cons (λ acts. literals_of (body_of acts))) handlers i acts now
    block.literals inside here so_far (λ j. (is j).literals)

pub literals_done : (handlers : List (List Act)) (i now : ℕ) → length handlers ≤ i →
    now ≡ capped (literals_of_all (take i handlers)) → now ≡ capped (literals_of_all handlers)
literals_done handlers i now all so_far = so_far ∙ ap (λ t. capped (literals_of_all t)) (take_all i handlers all)
