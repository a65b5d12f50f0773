mod Stamps
mod MarkedChoices
mod SumParts
