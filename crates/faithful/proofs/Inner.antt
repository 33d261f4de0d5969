-- The way to demand 3, in reading order: where groups stand, what a simulation is, how bodies are read over, the return's chain, what
-- a record turns into, and what a stage does. The four stages themselves stand beside this file.
pub mod Places
pub mod Simulation
pub mod Reading
pub mod Chain
pub mod Turns
pub mod Stage
