-- One program of a file: its goal and its evidence stand at the places that the list of ends has, and its verdict.
-- Assumes nothing.
--     pre_is, post_is, evidence-is              the places of a program's parts, by the list of ends
--     goal-stands                               its goal stands at these, with its evidence
--     start-listed, pre-listed, post-listed     these places are in the list
--     can-judge, judged-at                      what judging its evidence asks for; its verdict
use mathlib.Core.Path.{◌≡◌, ap, subst, ◌∙◌}
use mathlib.Core.List.{List}
use Prim.Native.Nat.{ℕ, ◌<◌, ◌≤◌}
use native.Mathlib.Omega.{arith}
use lib.ListN.{length}
use Rattle.rules.specs.Context as rules
use Rattle.rules.specs.Context.{alone}
use Rattle.layout.specs.Program.{Program}
use Rattle.layout.specs.Nodes.{command_node, set_node}
use Rattle.layout.proofs.Before.{before-limits}
use Rattle.ends.specs.Ends.{EndsOf}
use Rattle.ends.specs.Places.{end_at, CommandAt, SetAt}
use Rattle.ends.specs.Procedures.{start_at}
use Rattle.ends.proofs.Places.{node_at, node_known, at_place}
use Rattle.context.specs.Contexts.{limits_of}
use Rattle.context.specs.declared.Context.{Context}
use Rattle.goals.specs.declared.Goal.TheVariants.{Flow}
use Rattle.goals.specs.Goals as goals
use Rattle.outcomes.specs.Programs.{context_at, ProgramAt, CanJudgeAt, JudgedAt}

abbrev pub tree_of : Program → goals.TreeGoal
tree_of g = goals.flow g.evidence g.pre g.command g.post

module _ {file ends : List ℕ} {x : Context} {i : ℕ} where
  module _ (o : EndsOf file ends) {g : Program} (h : ProgramAt file ends x i g) where
    abbrev Γ : rules.Context
    Γ = context_at x file i

    abbrev start : ℕ
    start = start_at file ends i

    pub pre_is : end_at ends start ≡ g.pre_at
    pre_is = ap (end_at ends) h.start ∙ o.command-end Γ g.command Γ.limits.depth g.start g.pre_at h.stands.command

    pub post_is : end_at ends (end_at ends start) ≡ g.post_at
    post_is = ap (end_at ends) pre_is ∙ o.set-end Γ g.pre Γ.limits.depth g.pre_at g.post_at h.stands.pre

    pub evidence-is : end_at ends (end_at ends (end_at ends start)) ≡ g.evidence_at
    evidence-is = ap (end_at ends) post_is ∙ o.set-end Γ g.post Γ.limits.depth g.post_at g.evidence_at h.stands.post

    module _ (low : x.depth ≤ 256) where
      levels : Γ.limits.depth ≡ x.depth
      levels = ap (λ l. l.depth) (before-limits (alone (limits_of x)) file i 2)

      few-levels : Γ.limits.depth ≤ 256
      few-levels = omega (arith, levels, low)

      command-at : CommandAt file ends Γ g.command start
      command-at = at_place h.start (node_at o (command_node Γ g.command) Γ.limits.depth _ _ few-levels h.stands.command)

      pre_there : SetAt file ends Γ g.pre (end_at ends start)
      pre_there = at_place pre_is (node_at o (set_node Γ g.pre) Γ.limits.depth _ _ few-levels h.stands.pre)

      post-at : SetAt file ends Γ g.post (end_at ends (end_at ends start))
      post-at = at_place post_is (node_at o (set_node Γ g.post) Γ.limits.depth _ _ few-levels h.stands.post)

      pub goal-stands : goals.GoalStands Γ file ends (Flow (end_at ends start) start (end_at ends (end_at ends start))) (tree_of g) x.depth
          (end_at ends (end_at ends (end_at ends start))) g.past
      goal-stands = subst (λ d. goals.GoalStands Γ file ends (Flow (end_at ends start) start (end_at ends (end_at ends start))) (tree_of g) d
          (end_at ends (end_at ends (end_at ends start))) g.past) levels
          (goals.flow-stands pre_there (record { there = command-at; resolved = h.resolved }) post-at
          (record { stands = rw evidence-is h.stands.evidence; carried = h.carried }))

  -- with the places that the code finds, one from the other
  module _ (c : CanJudgeAt file ends x i) {at : ℕ} (s : at ≡ start_at file ends i) where
    pub start-listed : at < length ends
    start-listed = rw s (node_known c.ends_of (command-at c.ends_of c.there c.within.low)).listed

    module _ {pre : ℕ} (p : pre ≡ end_at ends at) where
      pub pre-listed : pre < length ends
      pre-listed = rw (p, s) (node_known c.ends_of (pre_there c.ends_of c.there c.within.low)).listed

      module _ {post : ℕ} (q : post ≡ end_at ends pre) where
        pub post-listed : post < length ends
        post-listed = rw (q, p, s) (node_known c.ends_of (post-at c.ends_of c.there c.within.low)).listed

        module _ {evidence : ℕ} (e : evidence ≡ end_at ends post) where
          stands-there : {g : Program} (h : ProgramAt file ends x i g) →
              goals.GoalStands (context_at x file i) file ends (Flow pre at post) (tree_of g) x.depth evidence g.past
          stands-there h = rw (e, q, p, s) (goal-stands c.ends_of h c.within.low)

          pub can-judge : goals.CanJudge file ends (context_at x file i) (Flow pre at post) evidence x.depth
          can-judge = record {
            ends_of = c.ends_of;
            procedures = c.procedures;
            size = c.size;
            few = (let l = ap (λ l. l.comparisons) (before-limits (alone (limits_of x)) file i 2) in omega (arith, l, c.within.few));
            low = c.within.low;
            tree = tree_of c.program;
            end = c.program.past;
            goal-stands = stands-there c.there;
          }

          pub judged-at : {r : goals.Answer} →
              goals.JudgedOf file ends (context_at x file i) (Flow pre at post) evidence x.depth r → JudgedAt file ends x i r
          judged-at j = record { judged = λ g h. j.judged (tree_of g) g.past (stands-there h) }
