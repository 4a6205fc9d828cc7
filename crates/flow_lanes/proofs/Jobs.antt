-- What lanes answer to jobs: what the contracts of `working`, `lane`, `worker`, `in_turn`, `batch` and `laws` rest on.
-- what is kept of each flow, in a map
pub mod KeptIn
-- what a lane stands for, job by job
pub mod IsAfter
-- a job that is done is answered
pub mod IsDone
-- the answers to a flow's jobs go by these alone
pub mod AnswersOfFlow
-- the answers of all lanes, put together
pub mod AnswersJoined
-- the answers of lanes are those of one list of jobs: lanes change nothing
pub mod AreLaneAnswers
-- one lane's jobs of a batch
pub mod OwnJobs
-- the workers' answers are taken
pub mod TakenParts
-- what the lanes did of a batch, beside each other
pub mod HaveSearched
-- what the lanes give away of a batch are the parts of its answers
pub mod AreParts
-- a slice that is cut in two
pub mod ChangesFrom
-- a batch in turn
pub mod AddsFound
