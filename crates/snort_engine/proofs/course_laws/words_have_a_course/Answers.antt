-- Each step of a course has some outcome: a file is there or lacking, each rule line is a rule or has a fault, bytes begin
-- with a longest list of records, and a test tells whatever is meant.
use Rattle.snort_engine.proofs.Courses.SomeCourses.{some_answer, some_course}
use Rattle.snort_engine.proofs.Courses.SomeSetups.{some_setup}
use Rattle.snort_engine.proofs.course_laws.words_have_a_course.Goals as goal

pub returns-clause-some : goal.returns-clause-some
returns-clause-some c = some_course

pub returns-clause-setup : goal.returns-clause-setup
returns-clause-setup c = some_setup

pub returns-clause-answered : goal.returns-clause-answered
returns-clause-answered c = some_answer
