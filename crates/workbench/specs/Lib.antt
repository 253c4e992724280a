-- What bench makes of a text (Request), what it writes then (Written), when it has read enough (Done), and what the parts of its answer
-- say (Parts).
pub mod Request
pub mod Written
pub mod Done
pub mod Parts
