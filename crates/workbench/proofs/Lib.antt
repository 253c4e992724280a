-- What a text asks, from the numbers taken of it (RequestLaws) and by the tests of the code (JudgeLaws); what two lines leave in the
-- buffer (LineLaws); that there is one output for a text (Settled), and that it never has refusal 5 or 6 (Never).
pub mod RequestLaws
pub mod JudgeLaws
pub mod LineLaws
pub mod Settled
pub mod Never
