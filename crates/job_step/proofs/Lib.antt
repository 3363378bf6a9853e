mod StepCases
