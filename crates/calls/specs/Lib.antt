-- Which events the calls with a step are for, and what they ask of the step.
pub mod Steps
