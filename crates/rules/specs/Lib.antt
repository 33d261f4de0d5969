-- The paper's sections, in its order. Words and Numbers come first: they are the language that the others use. Partners has no section of
-- its own in the paper, and stands before the stages that use it. The converted length stands in Skip, beside the places added; the order
-- of refusals of each call in Answers, last, where every call's answer and buffers are.
pub mod Words
pub mod Numbers
-- The record
pub mod Record
pub mod Table
pub mod Instruction
-- Well-built routines
pub mod Nesting
pub mod Skip
-- What is turned away
pub mod Refusals
pub mod Checks
-- How a routine is lowered
pub mod Labels
pub mod Calls
pub mod Partners
pub mod Loops
pub mod Conditionals
pub mod SecondLevel
pub mod Convert
pub mod Relative
-- Running
pub mod Stack
pub mod Step
pub mod Run
-- What the contracts have to say
pub mod Answers
