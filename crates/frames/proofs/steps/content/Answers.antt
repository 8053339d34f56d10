use Rattle.std.proofs.Common.{◌≡◌, ℕ, arith}
use Rattle.frames.specs.Reading.{due_length, content}
use Rattle.frames.proofs.steps.content.Goals as goal

pub header_frame-requires : goal.header_frame-requires
unfolding due_length
header_frame-requires c = rw c.in-Header.is at c.requires.1

pub reference_frame-requires : goal.reference_frame-requires
unfolding due_length
reference_frame-requires c = (c.requires.0.parameters, rw c.in-Reference.is at c.requires.1)

pub row_frame-requires : goal.row_frame-requires
unfolding due_length
row_frame-requires c = (c.requires.0, rw c.in-Row.is at c.requires.1)

pub transition_frame-requires : goal.transition_frame-requires
unfolding due_length
transition_frame-requires c = rw c.in-Transition.is at c.requires.1

pub returns-in-Header : goal.returns-in-Header
unfolding content
returns-in-Header c s e = rw c.in-Header.is (c.header_frame.ensures s)

pub returns-in-Reference : goal.returns-in-Reference
unfolding content
returns-in-Reference c s e = rw c.in-Reference.is (c.reference_frame.ensures s (e (rw c.in-Reference.is (λ (k : ◌≡◌ {A = ℕ} 2 1). absurd (omega arith)))))

pub returns-in-Row : goal.returns-in-Row
unfolding content
returns-in-Row c s e = rw c.in-Row.is (c.row_frame.ensures s (e (rw c.in-Row.is (λ (k : ◌≡◌ {A = ℕ} 3 1). absurd (omega arith)))))

pub returns-in-Transition : goal.returns-in-Transition
unfolding content
returns-in-Transition c s e = rw c.in-Transition.is (c.transition_frame.ensures s (e (rw c.in-Transition.is (λ (k : ◌≡◌ {A = ℕ} 4 1). absurd (omega arith)))))
