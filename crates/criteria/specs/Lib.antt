-- What a best plan is, over any problem: document 01, "Four ways to choose" and "First" of "Tables"; demand 3; document 02, [6] and [13].
-- Nothing here knows of tables, bytes or code.
pub mod Order
pub mod Fraction
pub mod Choice
pub mod Demand
pub mod Passes
pub mod Found
