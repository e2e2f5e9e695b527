-- What a reply is, and what the loads of a command come to.
use Rattle.std.proofs.Common.{◌≡◌, ℕ, ◌≤◌, ◌⊎◌, inl, inr, List, [], ◌∷◌, Option, Some, None, length, refl, sym, ap}
use Rattle.std.proofs.Common.{subst, ◌∙◌, arith}
use Rattle.std.proofs.lemmas.Bool.{cases_lt}
use Rattle.std.specs.List.{Contains}
use Rattle.std.proofs.lemmas.List.Elements.{Contains-append_left, Contains-push}
use Rattle.outside.specs.Faults.{Rose}
use Rattle.outside.specs.Files.{FileMap, file_of, LacksFile, IsLonger}
use Rattle.plan_text.specs.Messages.{usage_text, missing_text, fault_load_text}
use Rattle.plan_text.specs.declared.refusal.NetworkRefusal.TheVariants.{TooLong}
use Rattle.amdl_app.specs.Reply.{Reply, says}
use Rattle.amdl_app.specs.Command.{Command, Asks, AskNothing, Input, LoadsFile, network_input, inputs_of}
use Rattle.amdl_app.specs.Loaded.{Loaded, Found, Over, Lacking, Failed, Tells, MayCome, EachComes}
use Rattle.amdl_app.specs.Answer.{AfterNetwork}
use Rattle.amdl_app.specs.Promises.{IsRefusal, of_network, of_schedule, of_step}
use Rattle.amdl_app.specs.Seen.{FilesSeen}

pub refusal_is_three : (words : List (List ℕ)) (reply : Reply) → IsRefusal words reply → reply.status ≡ 3
refusal_is_three words reply (of_network refusal e) = ap (λ (r : Reply). r.status) e
refusal_is_three words reply (of_schedule asks refusal e) = ap (λ (r : Reply). r.status) e
refusal_is_three words reply (of_step asks lines k why e) = ap (λ (r : Reply). r.status) e

-- what a reply is
pub data Kind (words : List (List ℕ)) (before after : FilesSeen) (reply : Reply) : Type 0 where
  usage : AskNothing words → reply ≡ says 2 usage_text → Kind words before after reply
  good : reply.status ≤ 1 → Kind words before after reply
  refusing : IsRefusal words reply → Kind words before after reply
  lacking : (name : List ℕ) → LoadsFile words name → LacksFile before.told name before.faults after.faults →
      reply ≡ says 4 (missing_text name) → Kind words before after reply
  failing : (name : List ℕ) → LoadsFile words name → Rose before.faults after.faults →
      reply ≡ says 4 (fault_load_text name) → Kind words before after reply

-- loading a file of the command failed
pub record IsFault (words : List (List ℕ)) (before after : FilesSeen) (reply : Reply) : Type 0 where
  pub rose : Rose before.faults after.faults
  pub name : List ℕ
  pub loads : LoadsFile words name
  pub told : reply ≡ says 4 (fault_load_text name)

-- an outcome is what the map tells, or a failure
pub may_tells : (before after : FilesSeen) (files : FileMap) → before.told ≡ Some files →
    (input : Input) (loaded : Loaded) → MayCome before after input loaded →
    Tells files input loaded ⊎ ((loaded ≡ Failed) × Rose before.faults after.faults)
may_tells before after files is input (Found text) may = inl (may.0, may.1 files is)
may_tells before after files is input Over may = inl (may files is)
may_tells before after files is input Lacking may = inl (may.absent files is)
may_tells before after files is input Failed may = inr (refl, may)

-- of each file there is something that a map tells
told_of_file : (files : FileMap) (input : Input) (found : Option (List ℕ)) → file_of files input.name ≡ found →
    (loaded : Loaded) × Tells files input loaded
told_of_file files input None is = (Lacking, is)
told_of_file files input (Some text) is =
    elim (cases_lt input.limit (length text)) [
      | inl longer ↦ (Over, (text, is, longer))
      | inr within ↦ (Found text, (within, is))
    ]

pub some_told : (files : FileMap) (inputs : List Input) → (loads : List Loaded) × EachComes (Tells files) inputs loads
some_told files [] = ([], tt)
some_told files (input ∷ inputs) =
    let first = told_of_file files input (file_of files input.name) refl in
    let others = some_told files inputs in
    (first.0 ∷ others.0, (first.1, others.1))

one_map : {told : Option FileMap} {one two : FileMap} → told ≡ Some one → told ≡ Some two → one ≡ two
one_map {told} {one} {two} p q = let both : Some one ≡ Some two = sym p ∙ q in cc

not_told : (told : Option FileMap) (files : FileMap) → told ≡ None → told ≡ Some files → ⊥
not_told told files p q = let both : ◌≡◌ {A = Option FileMap} None (Some files) = sym p ∙ q in cc

-- and something that it may come to
tells_may : (before after : FilesSeen) (files : FileMap) (input : Input) (loaded : Loaded) →
    before.told ≡ Some files → Tells files input loaded → MayCome before after input loaded
tells_may before after files input (Found text) is tells =
    (tells.0, λ others same. subst (λ (f : FileMap). file_of f input.name ≡ Some text) (one_map is same) tells.1)
tells_may before after files input Over is tells =
    λ others same. subst (λ (f : FileMap). IsLonger (file_of f input.name) input.limit) (one_map is same) tells
tells_may before after files input Lacking is tells = record {
  absent = λ others same. subst (λ (f : FileMap). file_of f input.name ≡ None) (one_map is same) tells;
  untold = λ none. absurd (let both : ◌≡◌ {A = Option FileMap} (Some files) None = sym is ∙ none in cc);
}
tells_may before after files input Failed is tells = absurd tells

may_come : (before after : FilesSeen) (told : Option FileMap) → before.told ≡ told → (input : Input) →
    (loaded : Loaded) × MayCome before after input loaded
may_come before after None is input =
    (Found [], (omega arith, λ files same. absurd (not_told before.told files is same)))
may_come before after (Some files) is input =
    let told = told_of_file files input (file_of files input.name) refl in
    (told.0, tells_may before after files input told.0 is told.1)

pub some_come : (before after : FilesSeen) (inputs : List Input) →
    (loads : List Loaded) × EachComes (MayCome before after) inputs loads
some_come before after [] = ([], tt)
some_come before after (input ∷ inputs) =
    let first = may_come before after before.told refl input in
    let others = some_come before after inputs in
    (first.0 ∷ others.0, (first.1, others.1))

-- a command that loads a network first
module _ (words : List (List ℕ)) (before after : FilesSeen) (name : List ℕ) (inputs : List Input)
    (there : LoadsFile words name) (goes_on : List ℕ → List Loaded → Reply → Type 0) where
  abbrev pub Comes : (Input → Loaded → Type 0) → List Loaded → Type 0
  Comes comes loads = EachComes comes (network_input name ∷ inputs) loads

  pub after_kind : ((text : List ℕ) (others : List Loaded) (reply : Reply) →
      EachComes (MayCome before after) inputs others → goes_on text others reply → Kind words before after reply) →
      (loads : List Loaded) (reply : Reply) → Comes (MayCome before after) loads →
      AfterNetwork name goes_on loads reply → Kind words before after reply
  after_kind kind [] reply each p = absurd p
  after_kind kind (Found text ∷ others) reply each p = kind text others reply each.1 p
  after_kind kind (Over ∷ others) reply each p = refusing (of_network TooLong p)
  after_kind kind (Lacking ∷ others) reply each p = lacking name there each.0 p
  after_kind kind (Failed ∷ others) reply each p = failing name there each.0 p

  -- the reply is one to what the map tells
  abbrev pub IsToldReply : FileMap → Reply → Type 0
  IsToldReply files reply =
      (loads : List Loaded) × Comes (Tells files) loads × AfterNetwork name goes_on loads reply

  -- the same of the loads behind that of the network
  abbrev pub IsToldBehind : FileMap → List ℕ → Reply → Type 0
  IsToldBehind files text reply =
      (more : List Loaded) × EachComes (Tells files) inputs more × goes_on text more reply

  told_first : (files : FileMap) → ((text : List ℕ) (others : List Loaded) (reply : Reply) →
      EachComes (MayCome before after) inputs others → goes_on text others reply →
      IsToldBehind files text reply ⊎ IsFault words before after reply) →
      (loaded : Loaded) (others : List Loaded) (reply : Reply) → Tells files (network_input name) loaded →
      EachComes (MayCome before after) inputs others → AfterNetwork name goes_on (loaded ∷ others) reply →
      IsToldReply files reply ⊎ IsFault words before after reply
  told_first files behind (Found text) others reply told each p =
      elim (behind text others reply each p) [
        | inl more ↦ inl (Found text ∷ more.0, (told, more.1), more.2)
        | inr failure ↦ inr failure
      ]
  told_first files behind Over others reply told each p =
      let some = some_told files inputs in inl (Over ∷ some.0, (told, some.1), p)
  told_first files behind Lacking others reply told each p =
      let some = some_told files inputs in inl (Lacking ∷ some.0, (told, some.1), p)
  told_first files behind Failed others reply told each p = absurd told

  pub after_tells : (files : FileMap) → before.told ≡ Some files →
      ((text : List ℕ) (others : List Loaded) (reply : Reply) →
      EachComes (MayCome before after) inputs others → goes_on text others reply →
      IsToldBehind files text reply ⊎ IsFault words before after reply) →
      (loads : List Loaded) (reply : Reply) → Comes (MayCome before after) loads →
      AfterNetwork name goes_on loads reply → IsToldReply files reply ⊎ IsFault words before after reply
  after_tells files is behind [] reply each p = absurd p
  after_tells files is behind (loaded ∷ others) reply each p =
      elim (may_tells before after files is (network_input name) loaded each.0) [
        | inl told ↦ told_first files behind loaded others reply told each.1 p
        | inr failure ↦ inr
            (record {
              rose = failure.1;
              name = name;
              loads = there;
              told = subst
                  (λ (l : Loaded). AfterNetwork name goes_on (l ∷ others) reply) failure.0 p;
            })
      ]

pub loads_first : (words : List (List ℕ)) (command : Command) (name : List ℕ) (inputs : List Input) →
    Asks words command → inputs_of command ≡ network_input name ∷ inputs → LoadsFile words name
loads_first words command name inputs asks first =
    record {
      command = command;
      asks = asks;
      input = network_input name;
      loads = subst
          (λ (all : List Input). Contains all (network_input name)) (sym first)
          (Contains-append_left (network_input name ∷ []) inputs (network_input name)
          (Contains-push [] (network_input name)));
      named = refl;
    }
