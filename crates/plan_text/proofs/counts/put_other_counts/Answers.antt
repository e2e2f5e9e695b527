use Rattle.std.proofs.Common.{◌≡◌, List, ℕ, [], ◌∷◌, ◌++◌, codes, decimal, length, sym, ap, subst, ◌∙◌, append_assoc}
use Rattle.std.proofs.lemmas.Result.{on_ok_weaker, on_err_weaker}
use Rattle.amdl_tree.specs.Appends.{AppendsPart}
use Rattle.amdl_tree.specs.Layout.{line}
use Rattle.plan_text.specs.Text.{items_line, cells_line}
use Rattle.plan_text.proofs.PlanLemmas.{length-sizes}
use Rattle.plan_text.proofs.counts.put_other_counts.Goals as goal
use Rattle.plan_text.proofs.counts.put_other_counts.Goals.{After-put_all}

-- pieces in turn, grouped as they are put and as two lines
pieces : List ℕ → List ℕ → List ℕ → List ℕ → List ℕ → List ℕ → List ℕ
pieces types fields classes links ends cells =
    codes "types " ++ (types ++ (codes " fields " ++ (fields ++ (codes " classes " ++ (classes ++ (codes " links "
    ++ (links ++ (10 ∷ [] ++ (codes "ends " ++ (ends ++ (codes " cells " ++ (cells ++ 10 ∷ []))))))))))))

two_lines : (a types b fields c classes d links e ends f cells : List ℕ) →
    a ++ (types ++ (b ++ (fields ++ (c ++ (classes ++ (d ++ (links ++ (10 ∷ [] ++ (e ++ (ends ++ (f ++ (cells
    ++ 10 ∷ []))))))))))))
    ≡ line (a ++ types ++ b ++ fields ++ c ++ classes ++ d ++ links) ++ line (e ++ ends ++ f ++ cells)
two_lines a types b fields c classes d links e ends f cells = sym (simp append_assoc)

same_pieces : (types fields classes links ends cells t f c l e n : List ℕ) → types ≡ t → fields ≡ f → classes ≡ c →
    links ≡ l → ends ≡ e → cells ≡ n → pieces types fields classes links ends cells ≡ pieces t f c l e n
same_pieces types fields classes links ends cells t f c l e n p q r s u v =
    λ i. pieces (p i) (q i) (r i) (s i) (u i) (v i)

-- the pieces as they were put are the two lines
as_lines : (c : After-put_all) →
    pieces c.bytes.result.now c.bytes-2.result.now c.bytes-3.result.now c.bytes-4.result.now c.bytes-5.result.now
    c.bytes-6.result.now
    ≡ line (items_line c.args.network.now) ++ line (cells_line c.args.network.now)
unfolding pieces
as_lines c =
    let plan = c.args.network.now in
    let types = c.bytes.ensures ∙ c.of-types.ensures ∙ ap decimal c.types.ensures in
    let fields =
    c.bytes-2.ensures ∙ c.of-fields.ensures
    ∙ ap decimal (c.fields.ensures.length ∙ ap length c.headers.ensures ∙ length-sizes plan) in
    let classes = c.bytes-3.ensures ∙ c.of-classes.ensures ∙ ap decimal c.classes.ensures in
    let links = c.bytes-4.ensures ∙ c.of-links.ensures ∙ ap decimal c.links.ensures in
    let ends = c.bytes-5.ensures ∙ c.of-ends.ensures ∙ ap decimal c.ends.ensures.ends in
    let cells = c.bytes-6.ensures ∙ c.of-cells.ensures ∙ ap decimal c.cells.ensures.cells in
    same_pieces _ _ _ _ _ _ _ _ _ _ _ _ types fields classes links ends cells
    ∙ two_lines (codes "types ") _ (codes " fields ") _ (codes " classes ") _ (codes " links ") _ (codes "ends ") _
    (codes " cells ") _

pub returns-clause-ok : goal.returns-clause-ok
unfolding pieces
returns-clause-ok c =
    on_ok_weaker c.put_all.result (λ h. h ∙ ap (λ t. c.args.out.now.items ++ (10 ∷ t)) (as_lines c))
    c.put_all.ensures.ok

pub returns-clause-err : goal.returns-clause-err
unfolding pieces
returns-clause-err c =
    on_err_weaker c.put_all.result
    (subst (AppendsPart c.args.out.now.items c.put_all.new.out.items) (ap (λ t. 10 ∷ t) (as_lines c)))
    c.put_all.ensures.err
