mod RefusedTexts
